-- The numbers that `evp_pool` and `evp_report` return are those of the calls in Rattle, so that what pooling promises holds of the C calls.
-- Assumes nothing.
use Rattle.std.proofs.Common.{Ok, Err}
use mathlib.Core.List.{List}
use mathlib.Core.Logic.{⊎_elim}
use mathlib.Core.Path.{◌≡◌, refl, ap, ◌∙◌}
use Prim.Native.Nat.{ℕ, ◌+◌, ◌*◌}
use native.Mathlib.Omega.{arith}
use lib.ListN.{length, take}
use Rattle.refusals.specs.Check.{Pass}
use Rattle.sheet.specs.Bytes.{rows_of}
use Rattle.sheet.specs.Demands.{FirstUnmet}
use Rattle.refusals.proofs.Numbers.{number-above}
use Rattle.inventory.specs.ReportCall.{ReportCall}
use Rattle.pooling.specs.declared.PoolRefusal.TheVariants.{First, Second, Pooled}
use Rattle.pooling.specs.Pool.{pool}
use Rattle.pooling.specs.PoolCall.{PoolAnswer, Accepted, pool_answer, PoolCall, PoolSays, region_demands, pair_demands}
use Rattle.pooling.specs.PooledCalls.{pooled_bytes}
use Rattle.pooling.proofs.PoolAnswers.{answer-check, poolable}
use Rattle.pooling.proofs.PoolBytes.{pool-long}
use Rattle.pooling.proofs.PoolWritten.{pools}
use Rattle.pooling.proofs.PooledCalls.{pool-calls, order-calls}
use Rattle.boundary.specs.declared.EvpCheck.{EvpCheck}
use Rattle.boundary.specs.declared.EvpPool.{EvpPool}
use Rattle.boundary.specs.Export.{ReportNumbers}
use Rattle.boundary.specs.PoolExport.{pool_numbers, PoolNumbers}
use Rattle.boundary_courses.specs.PooledCalls.{PoolCallsTheorem, OrderCallsTheorem}
use Rattle.boundary_courses.proofs.Course.{zero_of, report-of, report-passes}

-- so number 0 is that of an accepted pool alone
zero-accepted : (bytes : ℕ) (r : PoolAnswer) → (pool_numbers r bytes).number ≡ 0 → r ≡ Accepted
unfolding pool_numbers
zero-accepted bytes (Ok _) h = refl
zero-accepted bytes (Err (First refusal)) h = let above = number-above refusal.rule in absurd (omega (arith, above, h))
zero-accepted bytes (Err (Second refusal)) h = let above = number-above refusal.rule in absurd (omega (arith, above, h))
zero-accepted bytes (Err (Pooled refusal)) h = let above = number-above refusal.rule in absurd (omega (arith, above, h))

-- a pool whose numbers these are
module _ {a b old out : List ℕ} {r : EvpPool} (n : PoolNumbers a b old out r) where
  pool-of : PoolCall a b old out (pool_answer a b (length old))
  pool-of = record { answer-is = refl; check-is = answer-check a b (length old); bytes-are = n.bytes-are; says = n.says }

  pool-accepted : r.number ≡ 0 → pool_answer a b (length old) ≡ Accepted
  pool-accepted h = zero-accepted (length (pool a b)) (pool_answer a b (length old)) (rw n.answer-is at h)

  -- the bytes that it returned
  bytes_of : pool_answer a b (length old) ≡ Accepted → r.bytes ≡ length a + 24 * rows_of b
  unfolding pool_numbers
  bytes_of e =
      rw (n.answer-is, e) (pool-long a (poolable a b (length old) (pools pool-of e).passes).both.second)

  sheet-of : pool_answer a b (length old) ≡ Accepted → take r.bytes out ≡ pooled_bytes a b out
  sheet-of e = ap (λ (k : ℕ). take k out) (bytes_of e)

-- a report that passed
passed : {s w words : List ℕ} {r : EvpCheck} → ReportNumbers s w words r → r.number ≡ 0 → ReportCall s w words Pass
passed {s} {w} a h = rw (report-passes a h) at (report-of a)

pub pool-numbers : PoolCallsTheorem
pool-numbers a b old out answer n zero =
    let e = pool-accepted n zero in
    let calls = pool-calls a b old out _ (pool-of n) e in
    record {
      accepted = λ w both r report room.
          let same = rw (sheet-of n e) at report in
          ap (λ (x : EvpCheck). x.number) same.answer-is ∙ zero_of (calls.accepted w both _ (report-of same) room);
      words = λ u first v second w both p q r pa qb rab h k l.
          calls.words u first v second w both (passed pa h) (passed qb k) (rw (sheet-of n e) at (passed rab l));
    }

-- an accepted pool has number 0
none : {c : PoolAnswer} (k : ℕ) → c ≡ Accepted → (pool_numbers c k).number ≡ 0
unfolding pool_numbers
none k e = rw e

pub order-numbers : OrderCallsTheorem
order-numbers a b old out old' out' answer answer' n zero n' same =
    let e = pool-accepted n zero in
    let calls = order-calls a b old out old' out' _ _ (pool-of n) e (pool-of n') same in
    record {
      accepted = ap (λ (x : EvpPool). x.number) n'.answer-is ∙ none _ calls.accepted;
      words = λ w both w' turned r r' report other h k.
          calls.words w both w' turned (rw (sheet-of n e) at (passed report h)) (rw (sheet-of n' calls.accepted) at (passed other k));
    }
