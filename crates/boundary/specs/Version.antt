-- The version of the library, which a program in another language can ask for. Definitions only.
use Rattle.std.specs.Prelude.{ℕ, ◌+◌, ◌*◌}

-- major, minor and patch as one number, which grows with the version while minor and patch are below 1,000
unfoldable pub version_number : ℕ → ℕ → ℕ → ℕ
version_number major minor patch = 1000000 * major + 1000 * minor + patch

-- 1.1.0
unfoldable pub library_version : ℕ
library_version = version_number 1 1 0
