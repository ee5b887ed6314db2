-- What holds of the answers of a shared ledger holds of their numbers.
-- Assumes nothing.
use mathlib.Core.List.{List}
use mathlib.Core.Path.{◌≡◌, ◌∙◌, ap}
use Prim.Native.Nat.{ℕ}
use Rattle.refusals.specs.Check.{Answer, Check}
use Rattle.ledger.specs.declared.Call.{Call}
use Rattle.shared_ledger.specs.declared.RowRead.{RowRead}
use Rattle.shared_ledger.specs.Opening.{OpenCall}
use Rattle.shared_ledger.specs.Calls.{SharedChangeCall, SharedRowCall, SharedTotalsCall}
use Rattle.boundary.specs.declared.EvpCheck.{EvpCheck}
use Rattle.boundary.specs.declared.EvpRow.{EvpRow}
use Rattle.boundary.specs.declared.EvpTotals.{EvpTotals}
use Rattle.boundary.specs.Export.{check_numbers}
use Rattle.boundary.specs.Shared.{row_numbers, totals_numbers, OpenNumbers, SharedNumbers, RowNumbers, TotalsNumbers}
use Rattle.boundary.proofs.Numbers.{check-is}

pub open-numbers : {s owners old words : List ℕ} {c : Check} {r : EvpCheck} → OpenCall s owners old words c
    → r ≡ check_numbers c → OpenNumbers s owners old words r
open-numbers a e = record {
  answer-is = e ∙ ap check_numbers a.answer-is;
  words_are = rw a.answer-is at a.words_are;
  says = rw (e ∙ check-is _) a.says;
  promise = rw (e ∙ check-is _) a.promise;
}

pub shared-numbers : {s owners old after words : List ℕ} {who : ℕ} {call : Call} {c : Check} {r : EvpCheck}
    → SharedChangeCall s owners old who call after words c → r ≡ check_numbers c → SharedNumbers s owners old who call after words r
shared-numbers a e = record {
  answer-is = e ∙ ap check_numbers a.answer-is;
  sheet-is = rw a.answer-is at a.sheet-is;
  words_are = rw a.answer-is at a.words_are;
  says = rw (e ∙ check-is _) a.says;
}

pub row_told : {s owners words : List ℕ} {who i : ℕ} {a : Answer RowRead} {r : EvpRow} → SharedRowCall s owners words who i a
    → r ≡ row_numbers a → RowNumbers s owners words who i r
unfolding row_numbers
row_told a e = record { answer-is = e ∙ ap row_numbers a.answer-is; says = rw e a.says }

pub totals-told : {s owners words : List ℕ} {who : ℕ} {a : Answer (List ℕ)} {r : EvpTotals}
    → SharedTotalsCall s owners words who a → r ≡ totals_numbers a → TotalsNumbers s owners words who r
unfolding totals_numbers
totals-told a e = record { answer-is = e ∙ ap totals_numbers a.answer-is; says = rw e a.says }
