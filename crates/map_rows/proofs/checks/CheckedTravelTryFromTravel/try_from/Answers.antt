-- `CheckedTravel::try_from` meets its contract.
use Rattle.std.proofs.Common.{sym, ◌∙◌, refl}
use Rattle.std.proofs.lemmas.Result.{err_from_is_err_and}
use Rattle.refusals.proofs.Chain.{applied, not_applied}
use Rattle.map_rows.proofs.Demanded.{travel-met}
use Rattle.map_rows.proofs.checks.CheckedTravelTryFromTravel.try_from.Goals as goal

pub returns-in_err-refuse : goal.returns-in_err-refuse
returns-in_err-refuse c =
    let p = err_from_is_err_and c.from_residual.result c.from_residual.ensures.1 in
    rw (p.1, p.2) (rw c.travel_wrong.ensures at (applied _ _ _ c.refuse.ensures c.in_err-refuse.was))

pub invariant_of-result : goal.invariant_of-result
invariant_of-result c =
    record { within = travel-met _ (sym c.travel_wrong.ensures ∙ not_applied _ _ _ c.refuse.ensures c.in_ok-refuse.was) }

pub returns : goal.returns
returns c = (refl, sym c.travel_wrong.ensures ∙ not_applied _ _ _ c.refuse.ensures c.in_ok-refuse.was)
