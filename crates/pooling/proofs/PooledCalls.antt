-- The bytes that the pool call left are the pooled sheet, so that what is said of its report holds of the words that a report call leaves.
-- Assumes nothing.
use Rattle.std.proofs.Common.{Ok, Err}
use mathlib.Core.List.{List}
use mathlib.Core.Path.{◌≡◌, refl, sym, ap, ap₂, ◌∙◌}
use Prim.Native.Nat.{ℕ, ◌+◌, ◌*◌, ◌≤◌, ◌<◌}
use native.Mathlib.Omega.{arith}
use lib.ListN.{length, take}
use borrow.Author.Tests.{le-ltb}
use Rattle.numbers.specs.Lists.{at}
use Rattle.refusals.specs.Check.{Check, Pass, refuse, ◌then◌}
use Rattle.sheet.specs.Bytes.{rows_of}
use Rattle.sheet.specs.Sheet.{sheet_check}
use Rattle.report_words.specs.Report.{report}
use Rattle.report_words.specs.Categories.{report_length}
use Rattle.report_words.proofs.ReportPlaces.{report-length}
use Rattle.inventory.specs.ReportCall.{ReportCall}
use Rattle.inventory.specs.ReportAnswers.{report_check}
use Rattle.inventory.proofs.Written.{written-first}
use Rattle.pooling.specs.declared.PoolRefusal.TheVariants.{First, Second, Pooled}
use Rattle.pooling.specs.Pool.{rows_together, pool}
use Rattle.pooling.specs.PoolCall.{PoolAnswer, Accepted, check_of, PoolCall}
use Rattle.pooling.specs.PooledCalls.{pooled_bytes, PoolCallsTheorem, OrderCallsTheorem}
use Rattle.pooling.proofs.PoolBytes.{rows-pool, pool-long}
use Rattle.pooling.proofs.PoolAnswers.{Poolable, poolable}
use Rattle.pooling.proofs.PoolWritten.{pools}
use Rattle.pooling.proofs.PooledReport.{pooled-report, other-order}

-- a word of the report that a call left
word-is : {s w words : List ℕ} (k : ℕ) → ReportCall s w words Pass → k < 6 * rows_of s + 26 → at words k ≡ at (report s) k
unfolding report_length
word-is {s} {w} k a l = ap (λ (x : List ℕ). at x k) a.words_are ∙ written-first (report s) w k (omega (arith, report-length s))

-- a report call on an accepted sheet passes where there is room
passes : {s w words : List ℕ} {r : Check} → ReportCall s w words r → sheet_check s ≡ Pass → 6 * rows_of s + 26 ≤ length w → r ≡ Pass
unfolding report_check report_length refuse ◌then◌
passes {s} {w} a accepted room = a.answer-is ∙ rw (accepted, le-ltb (length w) (6 * rows_of s + 26) room) refl

-- a number of an answer that is no refusal
accepted-answer : (r : PoolAnswer) → check_of r ≡ Pass → r ≡ Accepted
unfolding check_of
accepted-answer (Ok _) e = refl
accepted-answer (Err refused) e = let z : ◌≡◌ {A = ℕ} 0 1 = cc in absurd (omega arith)

-- A pool that was accepted: the bytes that it left are the pooled sheet.
module _ {a b old out : List ℕ} {answer : PoolAnswer} (call : PoolCall a b old out answer) (e : answer ≡ Accepted) where
  known : Poolable a b (length old)
  known = poolable a b (length old) (pools call e).passes

  sheet-is : pooled_bytes a b out ≡ pool a b
  sheet-is = ap (λ (n : ℕ). take n out) (sym (pool-long a known.both.second)) ∙ (pools call e).first

  rows_are : rows_of (pool a b) ≡ rows_together a b
  rows_are = rows-pool known.both

  -- a word that a report call on these bytes left
  pooled-word : {w both : List ℕ} (k : ℕ) → ReportCall (pooled_bytes a b out) w both Pass → k < 6 * rows_together a b + 26
      → at both k ≡ at (report (pool a b)) k
  pooled-word k r l = word-is k (rw sheet-is at r) (omega (arith, rows_are))

pub pool-calls : PoolCallsTheorem
pool-calls a b old out answer call e =
    let h = known call e in
    let p = pooled-report a b (length old) (pools call e).passes in
    record {
      accepted = λ w both r report room. passes (rw (sheet-is call e) at report) h.accepted (omega (arith, rows_are call e));
      words = λ u first v second w both ra rb r. record {
        first_rows = λ i k l m. pooled-word call e (6 * i + k) r (omega arith) ∙ (p.first i l).words k m ∙ sym (word-is (6 * i + k) ra (omega arith));
        second-rows = λ i k l m.
            pooled-word call e (6 * (rows_of a + i) + k) r (omega arith) ∙ (p.second i l).words k m ∙ sym (word-is (6 * i + k) rb (omega arith));
        sums = λ k l.
            pooled-word call e (6 * rows_together a b + k) r (omega arith) ∙
            ap (λ (n : ℕ). at (report (pool a b)) (6 * n + k)) (sym (rows_are call e)) ∙
            p.sums k l ∙
            ap₂ ◌+◌ (sym (word-is (6 * rows_of a + k) ra (omega arith))) (sym (word-is (6 * rows_of b + k) rb (omega arith)));
      };
    }

pub order-calls : OrderCallsTheorem
order-calls a b old out old' out' answer answer' call e other same =
    let o = other-order a b (length old) (pools call e).passes in
    let pass : check_of answer' ≡ Pass = other.check-is ∙ rw same o.accepted in
    let f = accepted-answer answer' pass in
    record {
      accepted = f;
      words = λ w both w' turned r r'. record {
        first_rows = λ i k l m.
            pooled-word other f (6 * (rows_of b + i) + k) r' (omega arith) ∙ (o.first i l).words k m ∙
            sym (pooled-word call e (6 * i + k) r (omega arith));
        second-rows = λ i k l m.
            pooled-word other f (6 * i + k) r' (omega arith) ∙ (o.second i l).words k m ∙
            sym (pooled-word call e (6 * (rows_of a + i) + k) r (omega arith));
        sums = λ k l.
            pooled-word other f (6 * rows_together a b + k) r' (omega arith) ∙
            ap (λ (n : ℕ). at (report (pool b a)) (6 * n + k)) (turned_rows (rows_are other f)) ∙
            o.sums k l ∙
            ap (λ (n : ℕ). at (report (pool a b)) (6 * n + k)) (rows_are call e) ∙
            sym (pooled-word call e (6 * rows_together a b + k) r (omega arith));
      };
    }
  where
    turned_rows : rows_of (pool b a) ≡ rows_together b a → rows_together a b ≡ rows_of (pool b a)
    turned_rows h = omega arith
