-- `EvpCellSum::from` of an answer meets its contract.
use Rattle.boundary.proofs.Numbers.{sum_told}
use Rattle.boundary.proofs.cells.EvpCellSumFromResultCellRefusal.from.Goals as goal

pub returns : goal.returns
returns c = rw c.told-number.ensures (sum_told _ _ (rw c.default.ensures at c.map_or.ensures))
