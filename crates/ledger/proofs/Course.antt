-- What the functions' contracts say, call by call, is the run of which the theorem of the ledger speaks.
-- Assumes nothing.
use mathlib.Core.List.{List, ◌∷◌}
use mathlib.Core.Path.{◌≡◌, refl, sym, ap, ap₂, ◌∙◌}
use Prim.Native.Nat.{ℕ}
use lib.ListN.{length}
use Rattle.refusals.specs.Check.{Check, Pass}
use Rattle.inventory.specs.ReportCall.{ReportCall}
use Rattle.inventory.specs.ReportAnswers.{report_check}
use Rattle.ledger.specs.declared.Call.{Call}
use Rattle.ledger.specs.Ledger.{ChangeCall, Ledger, answer, after, opened, run, answers}
use Rattle.ledger.specs.Course.{Made, none, next, CourseTheorem}
use Rattle.ledger.proofs.Kept.{ledger-kept}

-- two buffers
abbrev ledger_of : List ℕ → List ℕ → Ledger
ledger_of s w = record { sheet = s; words = w }

-- one call: its answer, and what it leaves
call-answers : {s w s' w' : List ℕ} {call : Call} {r : Check} → ChangeCall s w call s' w' r → r ≡ answer (ledger_of s w) call
unfolding answer
call-answers a = a.answer-is

call-leaves : {s w s' w' : List ℕ} {call : Call} {r : Check} → ChangeCall s w call s' w' r → ledger_of s' w' ≡ after (ledger_of s w) call
unfolding after answer
call-leaves {s} {w} {s'} {w'} {call} a = rw (← a.answer-is, ← a.sheet-is, ← a.words_are) refl

-- any list of calls
made-is : {s w t u : List ℕ} {calls : List Call} {rs : List Check} → Made s w calls rs t u
    → (ledger_of t u ≡ run calls (ledger_of s w)) × (rs ≡ answers calls (ledger_of s w))
unfolding run answers
made-is none = (refl, refl)
made-is {s} {w} {calls = call ∷ calls} {rs = r ∷ rs} (next a m) =
    let (left, told) = made-is m in
    (left ∙ ap (run calls) (call-leaves a), ap₂ ◌∷◌ (call-answers a) (told ∙ ap (answers calls) (call-leaves a)))

-- an opening that passes
open_is : {s w words : List ℕ} {r : Check} → ReportCall s w words r → r ≡ Pass → ledger_of s words ≡ opened s w
unfolding opened
open_is {s} {w} a e =
    let opens : report_check s (length w) ≡ Pass = sym a.answer-is ∙ e in
    let words = rw e at a.words_are in
    rw (opens, words) refl

pub course-kept : CourseTheorem
course-kept s w bytes calls rs t u course =
    let start = open_is course.opening course.accepted in
    let opens : report_check s (length w) ≡ Pass = sym course.opening.answer-is ∙ course.accepted in
    let (left, told) = made-is course.made in
    let kept = ledger-kept s w bytes opens calls in
    let x = run calls (opened s w) in
    let same : ledger_of t u ≡ x = left ∙ ap (run calls) start in
    let sheet : t ≡ x.sheet = ap (λ (y : Ledger). y.sheet) same in
    let words : u ≡ x.words = ap (λ (y : Ledger). y.words) same in
    record {
      counts-are = rw sheet kept.counts-are;
      sheet-is = rw sheet kept.sheet-is;
      afresh = λ fresh r a.
          let passes : r ≡ Pass = a.answer-is ∙ rw sheet kept.opens in
          (passes, words ∙ kept.words_are ∙ sym (rw (passes, sheet) at a.words_are));
      promise = rw (sheet, words) kept.promise;
      answers-are = told ∙ ap (answers calls) start ∙ kept.answers-are;
    }
