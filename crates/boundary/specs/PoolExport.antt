-- What a program in another language gets of the pool call: numbers alone. Definitions only.
use Rattle.std.specs.Prelude.{List, ◌≡◌, ℕ, length, Ok, Err}
use Rattle.refusals.specs.Check.{number_of, place_of}
use Rattle.inventory.specs.ReportCall.{written}
use Rattle.pooling.specs.declared.PoolRefusal.TheVariants.{First, Second, Pooled}
use Rattle.pooling.specs.Pool.{pool, pool_check}
use Rattle.refusals.specs.Rule.{number}
use Rattle.pooling.specs.PoolCall.{PoolAnswer, pool_answer, PoolSays}
use Rattle.boundary.specs.declared.EvpPool.{EvpPool}

-- the number and the place of an answer, and which sheet they are of: 1 the first, 2 the second, 3 the two together; and how many bytes are
-- written, which are those of the pooled sheet or none
unfoldable pub pool_numbers : PoolAnswer → ℕ → EvpPool
pool_numbers (Ok _) bytes = record { number = 0; place = 0; sheet = 0; bytes = bytes }
pool_numbers (Err (First refusal)) bytes = record { number = number refusal.rule; place = refusal.place; sheet = 1; bytes = 0 }
pool_numbers (Err (Second refusal)) bytes = record { number = number refusal.rule; place = refusal.place; sheet = 2; bytes = 0 }
pool_numbers (Err (Pooled refusal)) bytes = record { number = number refusal.rule; place = refusal.place; sheet = 3; bytes = 0 }

-- what holds after the call, as `PoolCall` says it of the answer in Rattle
pub record PoolNumbers (a b old out : List ℕ) (r : EvpPool) : Type 0 where
  pub answer-is : r ≡ pool_numbers (pool_answer a b (length old)) (length (pool a b))
  pub number_is : r.number ≡ number_of (pool_check a b (length old))
  pub place_is : r.place ≡ place_of (pool_check a b (length old))
  pub bytes-are : out ≡ written (pool_check a b (length old)) (pool a b) old
  pub says : PoolSays a b (length old) (pool_answer a b (length old))
