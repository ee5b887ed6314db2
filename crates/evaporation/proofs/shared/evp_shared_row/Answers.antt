-- `evaporation::shared::evp_shared_row` meets its contract: what holds of the answer holds of its numbers.
-- Assumes nothing.
use Rattle.boundary.proofs.SharedNumbers.{row_told}
use Rattle.evaporation.proofs.shared.evp_shared_row.Goals as goal

pub returns : goal.returns
returns c = rw c.from.ensures at (row_told c.read_row.ensures c.from-2.ensures)
