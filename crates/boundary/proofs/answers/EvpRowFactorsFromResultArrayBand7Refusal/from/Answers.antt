-- `EvpRowFactors::from` of an answer meets its contract.
-- Assumes nothing.
use Rattle.boundary.proofs.Numbers.{row_factors_told}
use Rattle.boundary.proofs.answers.EvpRowFactorsFromResultArrayBand7Refusal.from.Goals as goal

pub returns : goal.returns
returns c = rw c.told-number.ensures (row_factors_told _ _ c.map_or.ensures)
