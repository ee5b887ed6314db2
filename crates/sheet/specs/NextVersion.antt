-- A version 3 sheet, or a row of it, that says what a version 2 sheet, or a row of it, says: "In version 3 (version 2 otherwise) row bytes
-- 20 to 23 are a u32 mileage M in km; 0 keeps the written load." Definitions only.
use Rattle.std.specs.Prelude.{List, ◌≡◌, ℕ, ◌+◌, ◌*◌, ◌<◌, length}
use Rattle.sheet.specs.Integers.{u8_at}
use Rattle.sheet.specs.Versions.{version_of}
use Rattle.sheet.specs.Bytes.{seasons_of, rows_of, row_place}

-- t is s in version 3: all bytes but the two of the version are the same
pub record NextVersion (s t : List ℕ) : Type 0 where
  pub old : version_of s ≡ 2
  pub new : version_of t ≡ 3
  pub length-is : length t ≡ length s
  pub letters : (k : ℕ) → k < 3 → u8_at t k ≡ u8_at s k
  pub after : (k : ℕ) → u8_at t (5 + k) ≡ u8_at s (5 + k)

-- row j of t, in version 3, is row i of s, in version 2: parking and seasons are the same, and so are the row's 24 bytes
pub record SameRow (s t : List ℕ) (i j : ℕ) : Type 0 where
  pub old : version_of s ≡ 2
  pub new : version_of t ≡ 3
  pub row-of-s : i < rows_of s
  pub row-of-t : j < rows_of t
  pub seasons : seasons_of t ≡ seasons_of s
  pub parking-and-seasons : (k : ℕ) → k < 1152 + 8 * seasons_of s → u8_at t (8 + k) ≡ u8_at s (8 + k)
  pub row : (k : ℕ) → k < 24 → u8_at t (row_place t j + k) ≡ u8_at s (row_place s i + k)

-- t is s in version 4: all bytes but the two of the version are the same. "Version 4 is version 3 with bytes 6 and 7 as a u16 row count":
-- byte 7 of s is 0.
pub record FourthVersion (s t : List ℕ) : Type 0 where
  pub old : version_of s ≡ 3
  pub new : version_of t ≡ 4
  pub length-is : length t ≡ length s
  pub letters : (k : ℕ) → k < 3 → u8_at t k ≡ u8_at s k
  pub after : (k : ℕ) → u8_at t (5 + k) ≡ u8_at s (5 + k)
