-- The numbers that the C calls on a ledger return are those of the calls in Rattle, so that the theorem over every list of these holds of them.
-- Assumes nothing.
use mathlib.Core.List.{List, [], ◌∷◌, map}
use mathlib.Core.Path.{◌≡◌, refl, ap, ap₂, ◌∙◌}
use Prim.Native.Nat.{ℕ}
use native.Mathlib.Omega.{arith}
use lib.ListN.{length}
use Rattle.refusals.specs.Check.{Check, Pass, number_of}
use Rattle.inventory.specs.ReportCall.{ReportCall}
use Rattle.inventory.specs.ReportAnswers.{report_check}
use Rattle.inventory.proofs.CallConditions.{report-judged}
use Rattle.refusals.proofs.Numbers.{zero-passes}
use Rattle.ledger.specs.declared.Call.{Call}
use Rattle.ledger.specs.Ledger.{change_check, ChangeCall}
use Rattle.ledger.specs.Course as rattle
use Rattle.ledger.proofs.Course.{course-kept}
use Rattle.boundary.specs.declared.EvpCheck.{EvpCheck}
use Rattle.boundary.specs.Export.{check_numbers, ReportNumbers}
use Rattle.boundary.specs.Change.{ChangeNumbers}
use Rattle.boundary.proofs.Numbers.{check-is}
use Rattle.boundary_courses.specs.Course.{Made, none, next, CourseTheorem}

-- a pass has number 0
pub zero_of : {c : Check} → c ≡ Pass → (check_numbers c).number ≡ 0
unfolding check_numbers
zero_of e = rw e

-- a report whose numbers these are, with its answer in Rattle
pub report-of : {s w words : List ℕ} {r : EvpCheck} → ReportNumbers s w words r → ReportCall s w words (report_check s (length w))
report-of {s} {w} a =
    let e = a.answer-is ∙ check-is _ in
    record { answer-is = refl; words_are = a.words_are; says = rw e at a.says; promise = rw e at a.promise }

-- it passes where its number is 0
pub report-passes : {s w words : List ℕ} {r : EvpCheck} → ReportNumbers s w words r → r.number ≡ 0 → report_check s (length w) ≡ Pass
report-passes {s} {w} a h =
    let zero : number_of (report_check s (length w)) ≡ 0 = rw (a.answer-is ∙ check-is _) at h in
    zero-passes (report_check s (length w)) zero

-- a change
change-of : {s w after words : List ℕ} {call : Call} {r : EvpCheck} → ChangeNumbers s w call after words r
    → ChangeCall s w call after words (change_check s (length w) call)
change-of a = record { answer-is = refl; sheet-is = a.sheet-is; words_are = a.words_are; says = rw (a.answer-is ∙ check-is _) at a.says }

-- any list of calls: answers in Rattle whose numbers the C calls returned
pub record MadeInRattle (s w : List ℕ) (calls : List Call) (answers : List EvpCheck) (t u : List ℕ) : Type 0 where
  pub checks : List Check
  pub made : rattle.Made s w calls checks t u
  pub numbers : answers ≡ map check_numbers checks

made_of : {s w t u : List ℕ} {calls : List Call} {answers : List EvpCheck} → Made s w calls answers t u → MadeInRattle s w calls answers t u
made_of none = record { checks = []; made = rattle.none; numbers = refl }
made_of {s} {w} (next {call = call} a m) =
    let rest = made_of m in
    record {
      checks = change_check s (length w) call ∷ rest.checks;
      made = rattle.next (change-of a) rest.made;
      numbers = ap₂ ◌∷◌ a.answer-is rest.numbers;
    }

pub course-numbers : CourseTheorem
course-numbers s w bytes calls answers t u course =
    let m = made_of course.made in
    let kept = course-kept s w bytes calls m.checks t u (record {
      opened = course.opened;
      answer = report_check s (length w);
      opening = report-of course.opening;
      accepted = report-passes course.opening course.accepted;
      made = m.made;
    }) in
    record {
      counts-are = kept.counts-are;
      sheet-is = kept.sheet-is;
      afresh = λ words r a.
          let (passes, same) = kept.afresh words (report_check t (length w)) (report-of a) in
          (ap (λ (x : EvpCheck). x.number) a.answer-is ∙ zero_of passes, same);
      promise = kept.promise;
      answers-are = m.numbers ∙ ap (map check_numbers) kept.answers-are;
    }
