-- `pooling_calls::pair::Pair::length` meets its contract.
-- Assumes nothing.
use native.Mathlib.Omega.{arith}
use Rattle.pooling.proofs.PoolBytes.{length_most, rows-most, pool-long}
use Rattle.pooling.proofs.PoolAnswers.{region}
use Rattle.pooling_calls.proofs.pair.Pair.length.Goals as goal

pub overflow_add-result : goal.overflow_add-result
overflow_add-result c =
    let p = c.args.self.now.regions in
    omega (arith, length_most (region _ p.first), rows-most (region _ p.second))

pub returns : goal.returns
returns c =
    omega (arith, pool-long c.args.self.now.first.bytes.now (region _ c.args.self.now.regions.second))
