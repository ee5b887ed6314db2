-- A version 2 sheet that says what a version 1 sheet says: "a grid holding the products of two lists has the same exact masses as
-- those lists". Definitions only.
use Rattle.std.specs.Prelude.{List, ◌≡◌, ℕ, ◌+◌, length}
use Rattle.exact.specs.Factors.{products}
use Rattle.sheet.specs.Integers.{u8_at}
use Rattle.sheet.specs.Versions.{version_of}
use Rattle.sheet.specs.Bytes.{seasons_of, rows_of, duration_counts, hour_counts, grid_counts}

-- t is s in version 2: its grid holds the products of the two lists of s, and all bytes but those of the version and of the parking are
-- the same. A count is a u16 and a product can be 1,000,000, so not every s has such a t; where every product is a u16 there is one
-- (proofs/GridMade).
pub record GridOf (s t : List ℕ) : Type 0 where
  pub lists : version_of s ≡ 1
  pub grid : version_of t ≡ 2
  pub letter-0 : u8_at t 0 ≡ u8_at s 0
  pub letter-1 : u8_at t 1 ≡ u8_at s 1
  pub letter-2 : u8_at t 2 ≡ u8_at s 2
  pub seasons : seasons_of t ≡ seasons_of s
  pub rows : rows_of t ≡ rows_of s
  pub byte-7 : u8_at t 7 ≡ u8_at s 7
  pub products-are : grid_counts t ≡ products (duration_counts s) (hour_counts s)
  pub length-is : length t ≡ length s + 1056
  pub after : (k : ℕ) → u8_at t (1160 + k) ≡ u8_at s (104 + k)
