-- The check of the parking, with a grid and without.
-- Assumes nothing.
use Rattle.std.proofs.Common.{List, true, false, ◌≡◌, refl, sym, ℕ}
use Rattle.exact.specs.Factors.{total}
use Rattle.refusals.specs.declared.Rule.TheVariants as rule
use Rattle.refusals.specs.Check.{refuse, ◌then◌}
use Rattle.sheet.specs.Limits.{counts_limit, grid_limit}
use Rattle.sheet.specs.Versions.{has_grid}
use Rattle.sheet.specs.Bytes.{duration_counts, hour_counts, grid_counts, counts_at}
use Rattle.sheet.specs.Sheet.{outside, parking_check}
use Rattle.sheet.proofs.Versions.{start-grid, start_between}
use Rattle.sheet.proofs.Stages.{lists-alone, grid-alone}

-- with a grid its sum alone is checked
pub grid_checked : (s : List ℕ) → has_grid s ≡ true → parking_check s ≡ refuse (outside 1 grid_limit (total (counts_at s 8 576))) rule.Grid 8
unfolding parking_check grid_counts
grid_checked s h = sym (grid-alone _ _ _ _ _ _ _ _ h refl)

-- and without one those of the lists
pub lists_checked : (s : List ℕ) → has_grid s ≡ false → parking_check s
    ≡ (refuse (outside 1 counts_limit (total (counts_at s 8 24))) rule.Durations 8 then
    refuse (outside 1 counts_limit (total (counts_at s 56 24))) rule.Hours 56)
unfolding parking_check duration_counts hour_counts
lists_checked s h = sym (lists-alone _ _ _ _ _ _ _ _ h refl)

-- for `using` on the check
pub ruleset parking = (start_between, start-grid, grid_checked, lists_checked)
