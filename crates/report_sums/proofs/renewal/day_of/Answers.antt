-- `report_sums::renewal::day_of` meets its contract.
-- Assumes nothing.
use Rattle.std.proofs.Common.{◌∙◌}
use Rattle.sheet.proofs.Accepted.{accepted}
use Rattle.masses.proofs.FigureSizes.{figures-are}
use Rattle.sheet_factors.proofs.SeasonWork.{use-in-range}
use Rattle.report_sums.proofs.renewal.day_of.Goals as goal

pub invariant_of-six_figures : goal.invariant_of-six_figures
invariant_of-six_figures c = record { in_range = rw c.requires.2 (use-in-range (accepted _ c.args.sheet.now.sheet.passed) c.requires.1) }

pub returns : goal.returns
returns c = c.six_figures.ensures ∙ rw (c.units_with-units.ensures, c.requires.2) (figures-are _ _ _)
