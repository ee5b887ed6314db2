-- `map_rows::sums::share_out` meets its contract.
-- The answers name the same parts, each of its own context.
use Rattle.std.proofs.lemmas.Result.{err_from_is_err_and}
use Rattle.refusals.proofs.Chain.{applied, not_applied}
use Rattle.map_rows.proofs.SharedOut.{out-over, all_fit, out-cells}
use Rattle.map_rows.proofs.sums.share_out.Goals as goal

pub returns-in_err-refuse : goal.returns-in_err-refuse
returns-in_err-refuse c =
    let p = err_from_is_err_and c.from_residual.result c.from_residual.ensures.1 in
    let e = applied _ _ _ c.refuse.ensures c.in_err-refuse.was in
    rw (p.1, p.2, e.1) (out-over _ c.requires c.over.ensures c.over-2.ensures c.over-3.ensures e.0)

-- Where the rule passes, every sum is at most 2⁵³.

pub limits-requires : goal.limits-requires
limits-requires c =
    let none = not_applied _ _ _ c.refuse.ensures c.in_ok-refuse.was in
    (all_fit _ c.requires c.over.ensures c.over-2.ensures c.over-3.ensures none).urban-fits

pub limits-requires-2 : goal.limits-requires-2
limits-requires-2 c =
    let none = not_applied _ _ _ c.refuse.ensures c.in_ok-refuse.was in
    (all_fit _ c.requires c.over.ensures c.over-2.ensures c.over-3.ensures none).rural-fits

pub limits-requires-3 : goal.limits-requires-3
limits-requires-3 c =
    let none = not_applied _ _ _ c.refuse.ensures c.in_ok-refuse.was in
    (all_fit _ c.requires c.over.ensures c.over-2.ensures c.over-3.ensures none).highway-fits

pub returns : goal.returns
returns c =
    let none = not_applied _ _ _ c.refuse.ensures c.in_ok-refuse.was in
    out-cells _ c.requires c.over.ensures c.over-2.ensures c.over-3.ensures none _ c.limits.ensures c.limits-2.ensures
    c.limits-3.ensures c.cells_of.ensures
