-- `map_cells::kinds::exact_masses` meets its contract.
use Rattle.std.proofs.Common.{◌<◌, lt-ltb, arith}
use borrow.Author.Tests.{eqb-true, eqb-false}
use Rattle.std.proofs.lemmas.Result.{err_from_is_err_and}
use Rattle.refusals.proofs.Chain.{applied, not_applied}
use Rattle.map_cells.specs.Cells.{exact_masses}
use Rattle.map_cells.proofs.kinds.exact_masses.Goals as goal

pub returns-in_err-n : goal.returns-in_err-n
unfolding exact_masses
returns-in_err-n c =
    let p = err_from_is_err_and c.from_residual.result c.from_residual.ensures.1 in
    rw (p.1, p.2) (rw c.in_err-n.ensures.0, c.in_err-n.ensures.1)

pub returns-in_err-refuse : goal.returns-in_err-refuse
unfolding exact_masses
returns-in_err-refuse c =
    let p = err_from_is_err_and c.from_residual-in_err-refuse.result c.from_residual-in_err-refuse.ensures.1 in
    let (zero, why) = applied _ _ _ c.refuse.ensures c.in_err-refuse.was in
    rw (p.1, p.2) (rw (c.in_ok-n.ensures, eqb-true _ _ zero), why)

pub returns : goal.returns
unfolding exact_masses
returns c =
    let above : 0 < c.in_ok-n.field-0.milligrams = omega (arith, eqb-false _ _ (not_applied _ _ _ c.refuse.ensures c.in_ok-refuse.was)) in
    rw (c.in_ok-n.ensures, lt-ltb 0 _ above)
