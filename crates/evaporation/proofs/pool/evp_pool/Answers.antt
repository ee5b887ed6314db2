-- `evaporation::pool::evp_pool` meets its contract: what holds of the answer holds of its numbers.
use Rattle.boundary.proofs.PoolNumbers.{pool-numbers}
use Rattle.evaporation.proofs.pool.evp_pool.Goals as goal

pub returns : goal.returns
returns c = pool-numbers c.pool-answer.ensures c.pool_numbers.ensures
