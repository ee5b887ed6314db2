-- `EvpRowCells::from` of an answer meets its contract.
use Rattle.boundary.specs.Cells.{row_numbers}
use Rattle.boundary.proofs.cells.EvpRowCellsFromResultRowCellsRefusal.from.Goals as goal

pub returns-in-Ok : goal.returns-in-Ok
unfolding row_numbers
returns-in-Ok c = rw (c.in-Ok.is, c.from.ensures, c.from-in-Ok.ensures, c.from-in-Ok-2.ensures)

pub returns-in-Err : goal.returns-in-Err
unfolding row_numbers
returns-in-Err c =
    rw (c.in-Err.is, c.number.ensures, c.default.ensures, c.default-in-Err.ensures, c.default-in-Err-2.ensures)
