-- `boundary_calls::map::handed_sum` meets its contract.
use Rattle.std.proofs.lemmas.Result.{err_from_is_err_and}
use Rattle.boundary.specs.Cells.{handed_sum}
use Rattle.boundary_calls.proofs.map.handed_sum.Goals as goal

pub returns-in_err-first : goal.returns-in_err-first
unfolding handed_sum
returns-in_err-first c =
    let p = err_from_is_err_and c.from_residual.result c.from_residual.ensures.1 in
    rw (p.1, p.2, c.in_err-first.ensures.0, c.in_err-first.ensures.1)

pub returns-in_err-second : goal.returns-in_err-second
unfolding handed_sum
returns-in_err-second c =
    let p = err_from_is_err_and c.from_residual-in_err-second.result c.from_residual-in_err-second.ensures.1 in
    rw (p.1, p.2, c.in_ok-first.ensures, c.in_err-second.ensures.0, c.in_err-second.ensures.1)

pub returns : goal.returns
unfolding handed_sum
returns c = rw (c.in_ok-first.ensures, c.in_ok-second.ensures) c.add_cells.ensures.0
