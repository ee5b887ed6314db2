-- `evaporation::species::evp_species` meets its contract: what holds of the answer holds of its numbers.
-- Assumes nothing.
use Rattle.boundary.proofs.MassesWritten.{species-numbers}
use Rattle.evaporation.proofs.species.evp_species.Goals as goal

pub returns : goal.returns
returns c = species-numbers _ _ c.write_species.ensures.answer c.write_species.ensures.words c.from.ensures
