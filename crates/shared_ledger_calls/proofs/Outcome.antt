-- Each outcome of a call on a shared ledger, as its definition has it.
-- Assumes nothing.
use Rattle.std.proofs.Common.{Ok, Err}
use mathlib.Core.Bool.{false, not}
use mathlib.Core.List.{List}
use mathlib.Core.Path.{◌≡◌, refl, sym, subst, ◌∙◌}
use Prim.Native.Nat.{ℕ, ◌+◌, ◌*◌, ◌≤◌, ◌<◌}
use native.Mathlib.Omega.{arith}
use borrow.Author.Tests.{leb-false, lt-ltb, ne_eqb}
use lib.Dec.{leb, eqb}
use lib.ListN.{length}
use Rattle.refusals.specs.declared.Refusal.{Refusal}
use Rattle.refusals.specs.declared.Rule.TheVariants as rule
use Rattle.refusals.specs.Check.{Check, Pass, Refused, refuse, ◌then◌, number_of, place_of}
use Rattle.refusals.proofs.Chain.{not_applied}
use Rattle.sheet.specs.Bytes.{rows_of, row_at}
use Rattle.sheet.specs.Sheet.{sheet_check}
use Rattle.sheet.proofs.Checks.{then-pass}
use Rattle.sheet.specs.Demands.{Says}
use Rattle.sheet.specs.Versions.{has_many_rows}
use Rattle.sheet.specs.Counts.{counts_of}
use Rattle.sheet.proofs.Accepted.{Bytes}
use Rattle.report_words.specs.Report.{report}
use Rattle.inventory.specs.ReportCall.{written}
use Rattle.inventory.specs.ReportAnswers.{report_check}
use Rattle.inventory.proofs.ReportPromise.{report-answer}
use Rattle.ledger.specs.declared.Call.{Call}
use Rattle.ledger.specs.Machine.{row_of, wrong}
use Rattle.ledger.specs.Ledger.{sheet_after, words_after}
use Rattle.shared_ledger.specs.Opening.{vehicles_held, shared_check, OpenCall}
use Rattle.shared_ledger.specs.Calls.{owner_of, may_change, may_read, past_share, shared_change_check, shared_row_check}
use Rattle.shared_ledger.specs.Calls.{shared_totals_check, words_from, row_told, shared_row_demands, shared_totals_demands}
use Rattle.shared_ledger.specs.Calls.{shared_row_answer, totals_told, shared_totals_answer, SharedChangeCall, SharedRowCall, SharedTotalsCall}
use Rattle.shared_ledger.proofs.Conditions.{shared-report, shared-sheet, shared-room, shared_says, shared-zero, change-says, row-says, totals-says}
use Rattle.shared_ledger.proofs.Changed.{change-passed}

-- whether a participant may change a row: whoever has a number above 0 and owns it
pub owns-changes : (s owners : List ℕ) (who i : ℕ) → 0 < who → eqb (owner_of s owners i) who ≡ may_change s owners who i
unfolding may_change
owns-changes s owners who i some = rw (lt-ltb 0 who some) refl

-- and the same may read it
pub owns-reads : (s owners : List ℕ) (who i : ℕ) → 0 < who → eqb (owner_of s owners i) who ≡ may_read s owners who i
unfolding may_read
owns-reads s owners who i some = rw (ne_eqb who 0 (λ e. omega arith)) refl

-- The checks of a change on a ledger that opens.
module _ (s owners : List ℕ) (room : ℕ) (call : Call) (opens : shared_check s owners room ≡ Pass) where
  -- the marker has no right to any,
  pub marker-change : {who : ℕ} → who ≡ 0 → shared_change_check s owners room who call ≡ Refused rule.Right 0
  unfolding shared_change_check may_change refuse ◌then◌
  marker-change e = rw (e, opens) refl

  -- and of a participant the row's owner is asked first
  pub participant-change : {who number : ℕ} → who ≡ number → 0 < number
      → shared_change_check s owners room who call ≡ (refuse (not (eqb (owner_of s owners (row_of call)) number)) rule.Right 0 then
      refuse (wrong (has_many_rows s) (counts_of s) call) rule.Count 0 then
      refuse (past_share (vehicles_held s owners number (rows_of s)) call) rule.Share 0)
  unfolding shared_change_check ◌then◌
  participant-change {number = number} e some = rw (e, opens, owns-changes s owners number (row_of call) some) refl

-- An opening.
module _ (s owners w : List ℕ) where
  pub open-refused : {r : Check} {refusal : Refusal} → r ≡ shared_check s owners (length w) → r ≡ Err refusal → OpenCall s owners w w r
  unfolding written
  open-refused {r} {refusal} e h = record {
    answer-is = e;
    words_are = rw h refl;
    says = rw e (shared_says s owners (length w));
    promise = λ zero.
        let passes : r ≡ Pass = e ∙ shared-zero s owners (length w) (rw e at zero) in
        absurd (let z : ◌≡◌ {A = ℕ} 0 1 = cc (h, passes) in omega arith);
  }

  pub open-passed : {r : Check} → r ≡ shared_check s owners (length w) → r ≡ Pass → report_check s (length w) ≡ Pass
  open-passed e h = shared-report s owners (length w) (sym e ∙ h)

  pub open_done : {r : Check} {w' : List ℕ} → Bytes s → r ≡ shared_check s owners (length w) → r ≡ Pass → w' ≡ written Pass (report s) w
      → OpenCall s owners w w' r
  open_done {r} {w'} bytes e h done =
      let words_are : w' ≡ written r (report s) w = rw h done in
      let passed : r ≡ report_check s (length w) = h ∙ sym (open-passed e h) in
      record {
        answer-is = e;
        words_are = words_are;
        says = rw e (shared_says s owners (length w));
        promise = (report-answer bytes passed words_are).promise;
      }

-- A change.
module _ (s owners w : List ℕ) (who : ℕ) (call : Call) where
  pub change-refused : {r : Check} {refusal : Refusal} → r ≡ shared_change_check s owners (length w) who call → r ≡ Err refusal
      → SharedChangeCall s owners w who call s w r
  unfolding sheet_after words_after
  change-refused {r} {refusal} e h = record {
    answer-is = e;
    sheet-is = rw h refl;
    words_are = rw h refl;
    says = rw e (change-says s owners (length w) who call);
  }

  -- what passes here, the ledger itself allows
  pub change-allowed : {r : Check} → r ≡ shared_change_check s owners (length w) who call → r ≡ Pass
      → (report_check s (length w) ≡ Pass) × (wrong (has_many_rows s) (counts_of s) call ≡ false)
  change-allowed e h =
      let met = change-passed s owners (length w) who call (sym e ∙ h) in
      (shared-report s owners (length w) met.shared, met.right)

  pub change-done : {r : Check} {s' w' : List ℕ} → r ≡ shared_change_check s owners (length w) who call → r ≡ Pass → s' ≡ sheet_after Pass s call
      → w' ≡ words_after Pass s' call w → SharedChangeCall s owners w who call s' w' r
  change-done {r} {s'} {w'} e h sheet words = record {
    answer-is = e;
    sheet-is = rw h sheet;
    words_are = rw h words;
    says = rw e (change-says s owners (length w) who call);
  }

-- A read of a row.
module _ (s owners w : List ℕ) (who i : ℕ) where
  -- the numbers of the check are those of the answer
  row-answer-says : {c : Check} → shared_row_check s owners (length w) who i ≡ c
      → Says (shared_row_demands s owners (length w) who i) (number_of c) (place_of c)
  row-answer-says e =
      subst (λ (c : Check). Says (shared_row_demands s owners (length w) who i) (number_of c) (place_of c)) e (row-says s owners (length w) who i)

  pub row-refused : {refusal : Refusal} → shared_row_check s owners (length w) who i ≡ Err refusal → SharedRowCall s owners w who i (Err refusal)
  unfolding shared_row_answer row_told number_of place_of
  row-refused h = record { answer-is = rw h refl; says = row-answer-says h }

  pub row_done : {v : ℕ} {six : List ℕ} → shared_row_check s owners (length w) who i ≡ Pass
      → v ≡ (row_at s i).vehicles → six ≡ words_from w (6 * i) 6
      → SharedRowCall s owners w who i (Ok (record { count = v; words = six }))
  unfolding shared_row_answer row_told number_of place_of
  row_done h f g = record { answer-is = rw (h, f, g) refl; says = row-answer-says h }

  pub read-there : shared_row_check s owners (length w) who i ≡ Pass → (sheet_check s ≡ Pass) × (i < rows_of s) × (6 * rows_of s + 26 ≤ length w)
  unfolding shared_row_check
  read-there c =
      let (shared, rest) = then-pass _ _ c in
      let (right, last) = then-pass _ _ rest in (
        shared-sheet s owners (length w) shared,
        leb-false (rows_of s) i (not_applied (leb (rows_of s) i) rule.Count 0 refl last),
        shared-room s owners (length w) shared,
      )

-- A read of the totals.
module _ (s owners w : List ℕ) (who : ℕ) where
  -- the numbers of the check are those of the answer
  totals-answer-says : {c : Check} → shared_totals_check s owners (length w) who ≡ c
      → Says (shared_totals_demands s owners (length w) who) (number_of c) (place_of c)
  totals-answer-says e =
      subst (λ (c : Check). Says (shared_totals_demands s owners (length w) who) (number_of c) (place_of c)) e (totals-says s owners (length w) who)

  pub totals-refused : {refusal : Refusal} → shared_totals_check s owners (length w) who ≡ Err refusal
      → SharedTotalsCall s owners w who (Err refusal)
  unfolding shared_totals_answer totals_told number_of place_of
  totals-refused h = record { answer-is = rw h refl; says = totals-answer-says h }

  pub totals-done : {last : List ℕ} {place : ℕ} → shared_totals_check s owners (length w) who ≡ Pass
      → last ≡ words_from w place 26 → place ≡ 6 * rows_of s
      → SharedTotalsCall s owners w who (Ok last)
  unfolding shared_totals_answer totals_told number_of place_of
  totals-done h f g = record { answer-is = rw (h, f, g) refl; says = totals-answer-says h }

  pub totals-there : shared_totals_check s owners (length w) who ≡ Pass → (sheet_check s ≡ Pass) × (6 * rows_of s + 26 ≤ length w)
  unfolding shared_totals_check
  totals-there c =
      let (shared, last) = then-pass _ _ c in
      (shared-sheet s owners (length w) shared, shared-room s owners (length w) shared)
