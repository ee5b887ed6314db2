-- Blocks of words, one after another. Definitions only.
use Rattle.std.specs.Prelude.{List, [], ◌++◌, ℕ, suc, zero}

-- f 0, f 1, .. f (n − 1), one after another
unfoldable pub blocks : (ℕ → List ℕ) → ℕ → List ℕ
blocks f zero = []
blocks f (suc n) = blocks f n ++ f n
