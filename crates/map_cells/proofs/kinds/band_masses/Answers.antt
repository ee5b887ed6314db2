-- `map_cells::kinds::band_masses` meets its contract.
use Rattle.std.proofs.Common.{le-ltb, lt-ltb, arith}
use borrow.Author.Tests.{leb-true, leb-false}
use Rattle.std.proofs.lemmas.Result.{err_from_is_err_and}
use Rattle.refusals.proofs.Chain.{applied, not_applied}
use Rattle.map_cells.specs.Cells.{band_masses}
use Rattle.map_cells.proofs.kinds.band_masses.Goals as goal

pub returns-in_err-low : goal.returns-in_err-low
unfolding band_masses
returns-in_err-low c =
    let p = err_from_is_err_and c.from_residual.result c.from_residual.ensures.1 in
    rw (p.1, p.2) (rw c.in_err-low.ensures.0, c.in_err-low.ensures.1)

pub returns-in_err-high : goal.returns-in_err-high
unfolding band_masses
returns-in_err-high c =
    let p = err_from_is_err_and c.from_residual-in_err-high.result c.from_residual-in_err-high.ensures.1 in
    rw (p.1, p.2) (rw (c.in_ok-low.ensures, c.in_err-high.ensures.0), c.in_err-high.ensures.1)

pub returns-in_err-refuse : goal.returns-in_err-refuse
unfolding band_masses
returns-in_err-refuse c =
    let p = err_from_is_err_and c.from_residual-in_err-refuse.result c.from_residual-in_err-refuse.ensures.1 in
    let (wrong, why) = applied _ _ _ c.refuse.ensures c.in_err-refuse.was in
    rw (p.1, p.2) (rw (c.in_ok-low.ensures, c.in_ok-high.ensures, le-ltb _ _ (leb-true _ _ wrong)), why)

pub invariant_of-result : goal.invariant_of-result
invariant_of-result c =
    let right = leb-false _ _ (not_applied _ _ _ c.refuse.ensures c.in_ok-refuse.was) in
    record { order = omega arith; limit = c.in_ok-high.field-0.limit }

pub returns : goal.returns
unfolding band_masses
returns c =
    let right = leb-false _ _ (not_applied _ _ _ c.refuse.ensures c.in_ok-refuse.was) in
    rw (c.in_ok-low.ensures, c.in_ok-high.ensures, lt-ltb _ _ right)
