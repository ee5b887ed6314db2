-- `evaporation::shared::evp_shared_depart` meets its contract: what holds of the answer holds of its numbers.
-- Assumes nothing.
use Rattle.boundary.proofs.SharedNumbers.{shared-numbers}
use Rattle.evaporation.proofs.shared.evp_shared_depart.Goals as goal

pub returns : goal.returns
returns c = rw c.from.ensures at (shared-numbers c.change.ensures c.from-2.ensures)
