-- The counts of vehicles of a sheet's rows, and a sheet with another count in one row. Definitions only.
use Rattle.std.specs.Prelude.{List, [], ◌∷◌, ℕ, ◌+◌, ◌/◌, ◌%◌}
use Rattle.std.proofs.lemmas.List.Edits.{sets}
use Rattle.numbers.specs.Lists.{tab}
use Rattle.sheet.specs.Bytes.{rows_of, row_place, row_at}

-- "8 u32 vehicles", row by row
unfoldable pub counts_of : List ℕ → List ℕ
counts_of s = tab (λ (i : ℕ). (row_at s i).vehicles) (rows_of s)

-- "Integers are little-endian": the four bytes of a u32
abbrev pub four_bytes : ℕ → List ℕ
four_bytes v = v % 256 ∷ v / 256 % 256 ∷ v / 65536 % 256 ∷ v / 16777216 % 256 ∷ []

-- the sheet with v vehicles in row i: four bytes are stored, and no other
unfoldable pub with_count : List ℕ → ℕ → ℕ → List ℕ
with_count s i v = sets s (row_place s i + 8) (four_bytes v)
