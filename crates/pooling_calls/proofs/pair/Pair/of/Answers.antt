-- `pooling_calls::pair::Pair::of` meets its contract: a sheet that may be pooled is accepted.
-- Assumes nothing.
use Rattle.std.proofs.Common.{rules}
use Rattle.pooling.proofs.PoolAnswers.{region}
use Rattle.pooling_calls.proofs.pair.Pair.of.Goals as goal

pub invariant_of-result : goal.invariant_of-result
invariant_of-result c = record { passed = (region _ c.requires.first).passed; are_bytes = λ k. search rules }

pub invariant_of-result-2 : goal.invariant_of-result-2
invariant_of-result-2 c = record { passed = (region _ c.requires.second).passed; are_bytes = λ k. search rules }
