-- The numbers of the pool call that leave the library are those of its answer's definition.
use Rattle.std.proofs.Common.{Ok, Err}
use mathlib.Core.List.{List}
use mathlib.Core.Path.{◌≡◌, refl, ap, ◌∙◌}
use Rattle.refusals.specs.Check.{number_of, place_of}
use Prim.Native.Nat.{ℕ}
use lib.ListN.{length}
use Rattle.pooling.specs.declared.PoolRefusal.{PoolRefusal}
use Rattle.pooling.specs.declared.PoolRefusal.TheVariants.{First, Second, Pooled}
use Rattle.pooling.specs.Pool.{pool}
use Rattle.pooling.specs.Late.{Regions}
use Rattle.pooling.specs.PoolCall.{PoolAnswer, Accepted, pool_answer, refusal_of, check_of, PoolCall}
use Rattle.pooling.proofs.PoolWritten.{answer-passes}
use Rattle.boundary.specs.declared.EvpPool.{EvpPool}
use Rattle.boundary.specs.PoolExport.{pool_numbers, PoolNumbers}

number_is : (r : PoolAnswer) (bytes : ℕ) → (pool_numbers r bytes).number ≡ number_of (check_of r)
unfolding pool_numbers check_of refusal_of number_of
number_is (Ok _) bytes = refl
number_is (Err (First refusal)) bytes = refl
number_is (Err (Second refusal)) bytes = refl
number_is (Err (Pooled refusal)) bytes = refl

place_is : (r : PoolAnswer) (bytes : ℕ) → (pool_numbers r bytes).place ≡ place_of (check_of r)
unfolding pool_numbers check_of refusal_of place_of
place_is (Ok _) bytes = refl
place_is (Err (First refusal)) bytes = refl
place_is (Err (Second refusal)) bytes = refl
place_is (Err (Pooled refusal)) bytes = refl

-- a refusal writes no byte, however long the pool would be
pub refused-alike : (why : PoolRefusal) (m n : ℕ) → pool_numbers (Err why) m ≡ pool_numbers (Err why) n
unfolding pool_numbers
refused-alike (First refusal) m n = refl
refused-alike (Second refusal) m n = refl
refused-alike (Pooled refusal) m n = refl

-- what holds of the answer holds of its numbers
pub pool-numbers : {a b old out : List ℕ} {r : PoolAnswer} {n : EvpPool} → PoolCall a b old out r → n ≡ pool_numbers r (length (pool a b))
    → PoolNumbers a b old out n
pool-numbers {a} {b} {r} reply e = record {
  answer-is = e ∙ ap (λ (answer : PoolAnswer). pool_numbers answer (length (pool a b))) reply.answer-is;
  number_is = rw e (number_is r (length (pool a b)) ∙ ap number_of reply.check-is);
  place_is = rw e (place_is r (length (pool a b)) ∙ ap place_of reply.check-is);
  bytes-are = reply.bytes-are;
  says = rw reply.answer-is at reply.says;
}

-- what the code may ask for where the pool is accepted
pub both-pass : (a b : List ℕ) (room : ℕ) {r : PoolAnswer} → r ≡ pool_answer a b room → r ≡ Accepted → Regions a b
unfolding check_of
both-pass a b room e f = (answer-passes {a = a} {b = b} {room = room} e (ap check_of f)).0
