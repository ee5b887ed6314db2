-- `evaporation::registrations::evp_depart` meets its contract: what holds of the answer holds of its numbers.
use Rattle.boundary.proofs.ChangeNumbers.{change-numbers}
use Rattle.evaporation.proofs.registrations.evp_depart.Goals as goal

pub returns : goal.returns
returns c = change-numbers c.change.ensures c.from.ensures
