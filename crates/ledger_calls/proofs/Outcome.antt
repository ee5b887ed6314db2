-- What the code of the ledger's calls needs: condition 29 from the count of the row, and each outcome as the definition has it.
-- Assumes nothing.
use Rattle.std.proofs.Common.{Err}
use mathlib.Core.Bool.{Bool, true, false, true≢false}
use mathlib.Core.List.{List}
use mathlib.Core.Path.{◌≡◌, refl, sym, ap, ◌∙◌}
use Prim.Native.Nat.{ℕ, ◌+◌, ◌*◌, ◌≤◌, ◌<◌}
use native.Mathlib.Decide.{dec_le}
use native.Mathlib.Omega.{arith}
use borrow.Author.Tests.{le-leb, lt-leb, lt-ltb, ltb-false}
use lib.ListN.{length}
use Rattle.numbers.specs.Lists.{at}
use Rattle.exact.specs.Factors.{total}
use Rattle.refusals.specs.declared.Rule.TheVariants as rule
use Rattle.refusals.specs.declared.Refusal.{Refusal}
use Rattle.refusals.specs.Check.{Check, Pass, refuse}
use Rattle.refusals.proofs.Chain.{not_applied}
use Rattle.sheet.specs.Limits.{vehicles_limit}
use Rattle.sheet.specs.Versions.{has_many_rows}
use Rattle.sheet.specs.Bytes.{rows_of, row_at}
use Rattle.sheet.specs.Counts.{counts_of, with_count}
use Rattle.sheet.specs.Sheet.{sheet_check}
use Rattle.sheet.proofs.Accepted.{accepted}
use Rattle.sheet.proofs.Checks.{then-pass}
use Rattle.report_words.specs.Categories.{report_length}
use Rattle.inventory.specs.ReportAnswers.{report_check}
use Rattle.inventory.proofs.CallConditions.{report-sheet, report-accepted}
use Rattle.ledger.specs.declared.Call.{Call}
use Rattle.ledger.specs.declared.Call.TheVariants.{Arrival, Departure}
use Rattle.ledger.specs.Machine.{row_of, past, wrong, new_count}
use Rattle.ledger.specs.Ledger.{change_check, sheet_after, words_after, ChangeCall}
use Rattle.ledger.proofs.Counts.{counts-length, count_at, allowed, total-counts}
use Rattle.ledger.proofs.Conditions.{change-says}
use Rattle.ledger.proofs.Kept.{answer-open, change-allowed, rows-kept, still-opens}

-- for `using` on the limit of all rows together
pub ruleset counted = (total-counts)

-- An allowed arrival keeps to the row's limit, and an allowed departure to its count.
module _ {call : Call} {i k : ℕ} (many : Bool) (fleet v : ℕ) where
  pub arrival-fits : call ≡ Arrival i k → past many fleet v call ≡ false → v + k ≤ vehicles_limit
  unfolding past
  arrival-fits e h =
      elim (dec_le (v + k) vehicles_limit) [
        | yes l ↦ l
        | no l ↦ absurd (true≢false (rw (e, lt-ltb vehicles_limit (v + k) (omega arith)) at h))
      ]

  pub departure-fits : call ≡ Departure i k → past many fleet v call ≡ false → k ≤ v
  unfolding past
  departure-fits e h = ltb-false v k (rw e at h)

module _ (s : List ℕ) (pass : sheet_check s ≡ Pass) (call : Call) where
  -- no such row
  pub absent-wrong : rows_of s ≤ row_of call → true ≡ wrong (has_many_rows s) (counts_of s) call
  unfolding wrong
  absent-wrong h = rw (le-leb (length (counts_of s)) (row_of call) (omega (arith, counts-length s))) refl

  -- Row i, which the call names, with its v vehicles:
  module _ {row v : ℕ} (named : row ≡ row_of call) (there : row < rows_of s) (is : v ≡ (row_at s row).vehicles) where
    -- they are the entry of the machine,
    pub entry-is : at (counts_of s) (row_of call) ≡ v
    entry-is = rw (← named) (count_at s row there ∙ sym is)

    -- and decide on 29
    pub past-wrong : past (has_many_rows s) (total (counts_of s)) v call ≡ wrong (has_many_rows s) (counts_of s) call
    unfolding wrong
    past-wrong = rw (lt-leb (length (counts_of s)) (row_of call) (omega (arith, counts-length s)), entry-is) refl

  pub row-named-there : wrong (has_many_rows s) (counts_of s) call ≡ false → row_of call < rows_of s
  row-named-there h = (allowed s call (accepted s pass) h).there

  -- the count that it leaves is within the row's limit
  pub new-most : wrong (has_many_rows s) (counts_of s) call ≡ false → new_count (counts_of s) call ≤ vehicles_limit
  new-most h = (allowed s call (accepted s pass) h).most

pub with-count-same : (s : List ℕ) {i j v w : ℕ} → i ≡ j → v ≡ w → with_count s i v ≡ with_count s j w
with-count-same s {j} {v} e f = ap (λ (k : ℕ). with_count s k v) e ∙ ap (with_count s j) f

-- The two outcomes of a call.
module _ (s w : List ℕ) (call : Call) where
  answered : {after words : List ℕ} {r : Check} → r ≡ change_check s (length w) call → after ≡ sheet_after r s call
      → words ≡ words_after r after call w
      → ChangeCall s w call after words r
  answered e b c = record { answer-is = e; sheet-is = b; words_are = c; says = rw e (change-says s (length w) call) }

  -- refused,
  pub call-refused : {r : Check} {refusal : Refusal} → r ≡ change_check s (length w) call → r ≡ Err refusal → ChangeCall s w call s w r
  unfolding sheet_after words_after
  call-refused e h = answered e (rw h refl) (rw h refl)

  -- what a call that passes says
  pub call-passes : change_check s (length w) call ≡ Pass
      → (report_check s (length w) ≡ Pass) × (wrong (has_many_rows s) (counts_of s) call ≡ false)
  unfolding change_check
  call-passes h =
      let (opens, right) = then-pass _ _ h in
      (opens, not_applied _ rule.Count 0 refl right)

  -- and done
  pub right-call : {after words : List ℕ} → report_check s (length w) ≡ Pass → wrong (has_many_rows s) (counts_of s) call ≡ false
      → after ≡ sheet_after Pass s call → words ≡ words_after Pass after call w → ChangeCall s w call after words Pass
  unfolding refuse
  right-call opens h e b = answered (sym (answer-open s (length w) call opens ∙ rw h refl)) e b

  -- what the code relies on then
  pub right-room : report_check s (length w) ≡ Pass → wrong (has_many_rows s) (counts_of s) call ≡ false
      → let t = with_count s (row_of call) (new_count (counts_of s) call) in (sheet_check t ≡ Pass)
      × ((row_of call < rows_of t) × (6 * rows_of t + 26 ≤ length w))
  unfolding report_length
  right-room opens h =
      let t = with_count s (row_of call) (new_count (counts_of s) call) in
      let again = still-opens s (length w) call opens h in (
        report-sheet t (length w) again,
        (
          rw (rows-kept s (length w) call opens h) (change-allowed s (length w) call opens h).there,
          (report-accepted t (length w) again).1,
        ),
      )
