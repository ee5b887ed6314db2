-- `checks::checked_row::CheckedRow::mileage_check` meets its contract.
-- Assumes nothing.
use mathlib.Core.Path.{sym, ◌∙◌}
use Rattle.sheet.proofs.Stages.{old-alone, new-alone}
use Rattle.checks.proofs.checked_row.CheckedRow.mileage_check.Goals as goal

pub returns-then-has_mileage : goal.returns-then-has_mileage
returns-then-has_mileage c =
    new-alone _ _ _ _ _ (sym c.has_mileage.ensures ∙ c.if-has_mileage.true) (rw (c.refuse.ensures, c.mileage_wrong.ensures))

pub returns : goal.returns
returns c = old-alone _ _ _ _ _ (sym c.has_mileage.ensures ∙ c.if-has_mileage.false) (rw c.refuse-2.ensures)
