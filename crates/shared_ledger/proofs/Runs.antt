-- The lists of calls that the theorems speak of are the calls as their contracts have them: what a call answers is the reply, and the bytes and
-- words that it leaves are the ledger after it.
-- Assumes nothing.
use Rattle.std.proofs.Common.{Ok, Err}
use mathlib.Core.List.{List}
use mathlib.Core.Path.{◌≡◌, refl, sym, ap, ◌∙◌}
use Prim.Native.Nat.{ℕ}
use lib.ListN.{length}
use Rattle.refusals.specs.Check.{Answer, Check, Pass}
use Rattle.report_words.specs.Report.{report}
use Rattle.inventory.specs.ReportCall.{written}
use Rattle.ledger.specs.declared.Call.{Call}
use Rattle.ledger.specs.Ledger.{sheet_after, words_after, Ledger, answer, after, opened}
use Rattle.shared_ledger.specs.declared.RowRead.{RowRead}
use Rattle.shared_ledger.specs.Opening.{OpenCall}
use Rattle.shared_ledger.specs.Calls.{shared_change_check, SharedChangeCall, SharedRowCall, SharedTotalsCall}
use Rattle.shared_ledger.specs.Told.{change, read_row, read_totals, of_change, of_row, of_totals, reply, leaves, after_ask}
use Rattle.shared_ledger.proofs.Conditions.{shared-report}
use Rattle.shared_ledger.proofs.Changed.{ledger-passes}

-- two buffers
abbrev pub ledger_of : List ℕ → List ℕ → Ledger
ledger_of s w = record { sheet = s; words = w }

-- an opening that passes
pub open_is : {s owners w w' : List ℕ} {r : Check} → OpenCall s owners w w' r → r ≡ Pass → ledger_of s w' ≡ opened s w
unfolding opened
open_is {s} {owners} {w} {w'} {r} a h =
    let opens = shared-report s owners (length w) (sym a.answer-is ∙ h) in
    let words : w' ≡ written Pass (report s) w = rw h at a.words_are in
    rw (words, opens) refl

-- a change
module _ {s owners w s' w' : List ℕ} {who : ℕ} {call : Call} {r : Check} (a : SharedChangeCall s owners w who call s' w' r) where
  pub change-answers : of_change r ≡ reply owners (ledger_of s w) (change who call)
  unfolding reply
  change-answers = ap of_change a.answer-is

  pub change-leaves : ledger_of s' w' ≡ after_ask owners (ledger_of s w) (change who call)
  unfolding after_ask leaves after sheet_after words_after
  change-leaves = go (shared_change_check s owners (length w) who call) refl
    where
      go : (c : Check) → shared_change_check s owners (length w) who call ≡ c → ledger_of s' w' ≡ leaves c (ledger_of s w) call
      go (Ok _) h =
          let passes : answer (ledger_of s w) call ≡ Pass = ledger-passes (ledger_of s w) owners who call h in
          let e : r ≡ Pass = a.answer-is ∙ h in
          let sheet : s' ≡ sheet_after Pass s call = rw e at a.sheet-is in
          let words : w' ≡ words_after Pass s' call w = rw e at a.words_are in
          rw (passes, words, sheet) refl
      go (Err refusal) h =
          let e : r ≡ Err refusal = a.answer-is ∙ h in
          let sheet : s' ≡ sheet_after (Err refusal) s call = rw e at a.sheet-is in
          let words : w' ≡ words_after (Err refusal) s' call w = rw e at a.words_are in
          rw (words, sheet) refl

-- a read
pub row-answers : {s owners w : List ℕ} {who i : ℕ} {r : Answer RowRead} → SharedRowCall s owners w who i r
    → of_row r ≡ reply owners (ledger_of s w) (read_row who i)
unfolding reply
row-answers a = ap of_row a.answer-is

pub totals-answers : {s owners w : List ℕ} {who : ℕ} {r : Answer (List ℕ)} → SharedTotalsCall s owners w who r
    → of_totals r ≡ reply owners (ledger_of s w) (read_totals who)
unfolding reply
totals-answers a = ap of_totals a.answer-is
