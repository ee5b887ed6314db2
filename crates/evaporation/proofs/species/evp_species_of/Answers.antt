-- `evaporation::species::evp_species_of` meets its contract: what holds of the species holds of their numbers.
-- Assumes nothing.
use Rattle.boundary.proofs.CompositionNumbers.{composition-numbers}
use Rattle.evaporation.proofs.species.evp_species_of.Goals as goal

pub returns : goal.returns
returns c = composition-numbers c.species_of.ensures c.from.ensures
