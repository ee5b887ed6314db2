-- `map_cells::sums::add_masses` meets its contract.
use Rattle.std.proofs.Common.{arith}
use Rattle.std.proofs.lemmas.Bool.{ltb-true, ltb-false}
use Rattle.std.proofs.lemmas.Result.{err_from_is_err_and}
use Rattle.refusals.proofs.Chain.{applied, not_applied}
use Rattle.map_cells.proofs.Between.{sum_over, sum-within}
use Rattle.map_cells.proofs.sums.add_masses.Goals as goal

pub returns-in_err-refuse : goal.returns-in_err-refuse
returns-in_err-refuse c =
    let p = err_from_is_err_and c.from_residual.result c.from_residual.ensures.1 in
    let e = applied _ _ _ c.refuse.ensures c.in_err-refuse.was in
    rw (p.1, p.2, e.1) (sum_over _ _ _ _ (ltb-true _ _ e.0))

-- Where the rule passes, both highs together are at most 2⁵³.

pub invariant_of-from : goal.invariant_of-from
invariant_of-from c =
    let room = ltb-false _ _ (not_applied _ _ _ c.refuse.ensures c.in_ok-refuse.was) in
    record {
      masses = ∣ record {
        least = _;
        most = _;
        low-is = c.add_whole-low.ensures;
        high_is = c.add_whole-high.ensures;
        order = omega (arith, c.args.a.order, c.args.b.order);
        room = room;
      } ∣₁;
    }

pub returns : goal.returns
returns c =
    let room = ltb-false _ _ (not_applied _ _ _ c.refuse.ensures c.in_ok-refuse.was) in
    sum-within _ _ _ _ _ _ _ c.args.a.order c.args.b.order room c.add_whole-low.ensures c.add_whole-high.ensures c.from.ensures
