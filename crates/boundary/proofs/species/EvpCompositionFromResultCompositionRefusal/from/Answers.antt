-- `EvpComposition::from` of an answer meets its contract.
-- Assumes nothing.
use Rattle.boundary.proofs.Numbers.{composition_told}
use Rattle.boundary.proofs.species.EvpCompositionFromResultCompositionRefusal.from.Goals as goal

pub returns : goal.returns
returns c = rw (c.told-number.ensures, c.unwrap_or-total.ensures) (composition_told _)
