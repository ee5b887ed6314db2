-- The vehicles of an accepted sheet, added up row by row.
-- Assumes nothing.
use Rattle.std.proofs.Common.{List, ◌≡◌, ℕ, ◌≤◌}
use Rattle.refusals.specs.Check.{Pass}
use Rattle.sheet.specs.Bytes.{rows_of}
use Rattle.sheet.specs.Sheet.{sheet_check}
use Rattle.sheet.specs.RunningSums.{vehicles_before}
use Rattle.sheet.proofs.Accepted.{accepted}
use Rattle.sheet.proofs.Fleet.{vehicles-none, vehicles-more, vehicles-most}
use Rattle.sheet.proofs.Places.{head_there, length_is}

-- the vehicles of the first rows of an accepted sheet
pub fleet_fits : (s : List ℕ) → sheet_check s ≡ Pass → (i : ℕ) → i ≤ rows_of s → vehicles_before s i ≤ 320000000
fleet_fits s h i l = vehicles-most (accepted s h) i l

-- for `using` on the sum
pub ruleset fleet = (head_there, length_is, vehicles-none, vehicles-more, fleet_fits)
