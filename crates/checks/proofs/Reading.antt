-- What an accepted sheet has, for the functions that read it.
-- Assumes nothing.
use Rattle.std.proofs.Common.{List, ◌≡◌, ℕ, ◌+◌, ◌*◌, ◌<◌, ◌≤◌, length}
use Rattle.refusals.specs.Check.{Pass}
use Rattle.refusals.proofs.Chain.{not_applied}
use Rattle.sheet.specs.Versions.{seasons_start}
use Rattle.sheet.specs.Bytes.{seasons_of, rows_of, row_at}
use Rattle.sheet.specs.Sheet.{mark_check, head_check, length_check, sheet_check}
use Rattle.sheet.proofs.Places.{head_there, length_is, parking-there, grid-there, rows_fit}
use Rattle.sheet.proofs.Conditions.{mark-judged, head-judged, length-judged}
use Rattle.sheet.proofs.Accepted.{accepted}

pub seasons_fit : (s : List ℕ) → sheet_check s ≡ Pass → seasons_of s ≤ 12
seasons_fit s h = (accepted s h).seasons-most

pub vehicles_fit : (s : List ℕ) → sheet_check s ≡ Pass → (i : ℕ) → i < rows_of s → (row_at s i).vehicles ≤ 10000000
vehicles_fit s h i l = ((accepted s h).row i l).vehicles-most

-- for `using` on the functions that read an accepted sheet
pub ruleset reading = (head_there, length_is, parking-there, grid-there, rows_fit, seasons_fit, vehicles_fit)

-- what the head's checks and that of the length have shown where they passed
pub mark_passed : (s : List ℕ) → mark_check s ≡ Pass → 8 ≤ length s
mark_passed s h = ((mark-judged s).passes h).0

pub head_passed : (s : List ℕ) → head_check s ≡ Pass → 8 ≤ length s
head_passed s h = ((head-judged s).passes h).0.0

pub length_passed : (s : List ℕ) → length_check s ≡ Pass → length s ≡ seasons_start s + 8 * seasons_of s + 24 * rows_of s
length_passed s h = (length-judged s).passes h

-- for `using` on the checks one after another
pub ruleset shown = (mark_passed, head_passed, length_passed, not_applied)
