-- Where the parts of an accepted sheet stand: each is there to be read.
-- Assumes nothing.
use mathlib.Core.Bool.{true}
use mathlib.Core.List.{List}
use mathlib.Core.Path.{◌≡◌}
use Prim.Native.Nat.{ℕ, ◌+◌, ◌*◌, ◌≤◌, ◌<◌}
use native.Mathlib.Omega.{arith}
use lib.ListN.{length}
use Rattle.refusals.specs.Check.{Pass}
use Rattle.sheet.specs.Versions.{has_grid, seasons_start}
use Rattle.sheet.specs.Bytes.{seasons_of, rows_of, season_place, row_place}
use Rattle.sheet.specs.Sheet.{sheet_check}
use Rattle.sheet.proofs.Versions.{start-grid, start_between, rows-limit}
use Rattle.sheet.proofs.Accepted.{accepted}

module _ (s : List ℕ) (h : sheet_check s ≡ Pass) where
  -- so many bytes in all
  pub length_is : length s ≡ seasons_start s + 8 * seasons_of s + 24 * rows_of s
  length_is = (accepted s h).length-is

  -- the head and two lists of counts, or the first bytes of a grid
  pub parking-there : 104 ≤ length s
  parking-there = omega (arith, (accepted s h).length-is, start_between s)

  -- a whole grid
  pub grid-there : has_grid s ≡ true → 1160 ≤ length s
  grid-there g = omega (arith, (accepted s h).length-is, start-grid s g)

  -- as many rows as there are places for
  pub rows_fit : rows_of s ≤ 1000
  rows_fit = omega (arith, (accepted s h).rows-most, rows-limit s)

  -- season j
  pub season-there : {j : ℕ} → j < seasons_of s → season_place s j + 8 ≤ length s
  season-there l = omega (arith, (accepted s h).length-is)

  -- row i
  pub row-there : {i : ℕ} → i < rows_of s → row_place s i + 24 ≤ length s
  row-there l = omega (arith, (accepted s h).length-is)

-- the head of an accepted sheet is there
pub head_there : (s : List ℕ) → sheet_check s ≡ Pass → 8 ≤ length s
head_there s h = let there = parking-there s h in omega arith
