-- `checks::checked_row::CheckedRow::is_absent` meets its contract.
-- Assumes nothing.
use Rattle.checks.proofs.RowTests.{none_absent}
use Rattle.checks.proofs.checked_row.CheckedRow.is_absent.Goals as goal

pub returns : goal.returns
returns c = cc (none_absent c.equipment.result c.is_none.result c.is_none.ensures)
