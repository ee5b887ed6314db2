-- `evaporation::bulk::evp_factors` meets its contract: what holds of the answer holds of its numbers.
use Rattle.boundary.proofs.BulkNumbers.{factors-numbers}
use Rattle.evaporation.proofs.bulk.evp_factors.Goals as goal

pub returns : goal.returns
returns c = factors-numbers c.factors.ensures c.from.ensures
