-- `evaporation::shared::evp_shared_totals` meets its contract: what holds of the answer holds of its numbers.
-- Assumes nothing.
use Rattle.boundary.proofs.SharedNumbers.{totals-told}
use Rattle.evaporation.proofs.shared.evp_shared_totals.Goals as goal

pub returns : goal.returns
returns c = rw c.from.ensures at (totals-told c.read_totals.ensures c.from-2.ensures)
