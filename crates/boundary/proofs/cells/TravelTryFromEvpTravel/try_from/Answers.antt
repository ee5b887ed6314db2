-- `Travel::try_from` of what is handed in meets its contract: by the number of town, 0 and 1, or any other.
use Rattle.std.proofs.lemmas.Result.{err_from_is_err_and}
use Rattle.refusals.proofs.Chain.{applied, not_applied}
use Rattle.boundary.specs.Cells.{travel_handed}
use Rattle.boundary.proofs.cells.TravelTryFromEvpTravel.try_from.Goals as goal

pub returns-in_err-refuse : goal.returns-in_err-refuse
unfolding travel_handed
returns-in_err-refuse c =
    let p = err_from_is_err_and c.from_residual.result c.from_residual.ensures.1 in
    let e = applied _ _ _ c.refuse.ensures c.in_err-refuse.was in
    rw (p.1, p.2) (rw e.0, e.1)

pub returns : goal.returns
unfolding travel_handed
returns c = rw (not_applied _ _ _ c.refuse.ensures c.in_ok-refuse.was)
