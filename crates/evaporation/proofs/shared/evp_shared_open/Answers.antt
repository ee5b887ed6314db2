-- `evaporation::shared::evp_shared_open` meets its contract: what holds of the answer holds of its numbers.
-- Assumes nothing.
use Rattle.boundary.proofs.SharedNumbers.{open-numbers}
use Rattle.evaporation.proofs.shared.evp_shared_open.Goals as goal

pub returns : goal.returns
returns c = open-numbers c.open.ensures c.from.ensures
