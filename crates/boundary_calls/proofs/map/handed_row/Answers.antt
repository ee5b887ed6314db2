-- `boundary_calls::map::handed_row` meets its contract.
use Rattle.std.proofs.lemmas.Result.{err_from_is_err_and}
use Rattle.boundary.specs.Cells.{handed_row}
use Rattle.boundary_calls.proofs.map.handed_row.Goals as goal

pub returns-in_err-travel : goal.returns-in_err-travel
unfolding handed_row
returns-in_err-travel c =
    let p = err_from_is_err_and c.from_residual.result c.from_residual.ensures.1 in
    rw (p.1, p.2, c.in_err-travel.ensures.0, c.in_err-travel.ensures.1)

pub returns : goal.returns
unfolding handed_row
returns c = rw c.in_ok-travel.ensures c.cells_of_row.ensures.0
