-- `evaporation::bulk::evp_row_factors` meets its contract: what holds of the answer holds of its numbers.
use Rattle.boundary.proofs.BulkNumbers.{row-factors-numbers}
use Rattle.evaporation.proofs.bulk.evp_row_factors.Goals as goal

pub returns : goal.returns
returns c = row-factors-numbers c.row_factors.ensures c.from.ensures
