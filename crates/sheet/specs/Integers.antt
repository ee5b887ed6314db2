-- The integers of a sheet. "Integers are little-endian, offsets decimal". Definitions only.
use Rattle.std.specs.Prelude.{List, ℕ, ◌+◌, ◌*◌, get_or}

abbrev pub u8_at : List ℕ → ℕ → ℕ
u8_at s i = get_or s i 0

abbrev pub u16_at : List ℕ → ℕ → ℕ
u16_at s i = u8_at s i + 256 * u8_at s (i + 1)

abbrev pub u32_at : List ℕ → ℕ → ℕ
u32_at s i = u16_at s i + 65536 * u16_at s (i + 2)
