-- `EvpFactor::from` of an answer meets its contract.
-- Assumes nothing.
use Rattle.boundary.proofs.Numbers.{factor_told}
use Rattle.boundary.proofs.answers.EvpFactorFromResultBandRefusal.from.Goals as goal

pub returns : goal.returns
returns c = rw (c.told-number.ensures, c.unwrap_or-low.ensures) (factor_told _)
