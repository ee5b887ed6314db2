-- The numbers that the C calls on a shared ledger return are those of the replies in Rattle, so that isolation and what is read hold of them.
-- Assumes nothing.
use mathlib.Core.Bool.{Bool, true, false}
use mathlib.Core.List.{List, [], ◌∷◌, map}
use mathlib.Core.Path.{◌≡◌, refl, sym, ap, ap₂, ◌∙◌}
use Prim.Native.Nat.{ℕ}
use lib.Dec.{eqb}
use lib.ListN.{length}
use Rattle.refusals.specs.Check.{Pass, number_of, place_of}
use Rattle.ledger.specs.declared.Call.{Call}
use Rattle.shared_ledger.specs.Opening.{shared_check, OpenCall}
use Rattle.shared_ledger.specs.Calls.{row_told, totals_told, shared_change_check, shared_row_answer, shared_totals_answer}
use Rattle.shared_ledger.specs.Calls.{SharedChangeCall, SharedRowCall, SharedTotalsCall}
use Rattle.shared_ledger.specs.Told.{Ask, asker_of, reply}
use Rattle.shared_ledger.specs.Told as told
use Rattle.shared_ledger.specs.Course as rattle
use Rattle.shared_ledger.proofs.Conditions.{shared-zero}
use Rattle.shared_ledger.proofs.Course.{isolated, course-kept}
use Rattle.boundary.specs.declared.EvpCheck.{EvpCheck}
use Rattle.boundary.specs.declared.EvpRow.{EvpRow}
use Rattle.boundary.specs.declared.EvpTotals.{EvpTotals}
use Rattle.boundary.specs.Export.{check_numbers}
use Rattle.boundary.specs.Shared.{count_told, words_told, words_of_totals}
use Rattle.boundary.specs.Shared.{row_numbers, totals_numbers, OpenNumbers, SharedNumbers, RowNumbers, TotalsNumbers}
use Rattle.boundary.proofs.Numbers.{check-is}
use Rattle.boundary_courses.specs.SharedCourse.{Reply, of_change, of_row, of_totals, Made, none, changed, row_read, totals_read, Course}
use Rattle.boundary_courses.specs.SharedCourse.{replies_to, IsolatedTheorem, CourseTheorem}

-- the numbers of a reply
unfoldable numbers_of : told.Reply → Reply
numbers_of (told.of_change c) = of_change (check_numbers c)
numbers_of (told.of_row a) = of_row (row_numbers a)
numbers_of (told.of_totals a) = of_totals (totals_numbers a)

-- Calls whose numbers these are, with their answers in Rattle.

open_of : {s owners w words : List ℕ} {r : EvpCheck} → OpenNumbers s owners w words r → OpenCall s owners w words (shared_check s owners (length w))
open_of a =
    let e = a.answer-is ∙ check-is _ in
    record { answer-is = refl; words_are = a.words_are; says = rw e at a.says; promise = rw e at a.promise }

open-passes : {s owners w words : List ℕ} {r : EvpCheck} → OpenNumbers s owners w words r → r.number ≡ 0 → shared_check s owners (length w) ≡ Pass
open-passes {s} {owners} {w} a h = shared-zero s owners (length w) (rw (a.answer-is ∙ check-is _) at h)

change-of : {s owners w after words : List ℕ} {who : ℕ} {call : Call} {r : EvpCheck} → SharedNumbers s owners w who call after words r
    → SharedChangeCall s owners w who call after words (shared_change_check s owners (length w) who call)
change-of a = record { answer-is = refl; sheet-is = a.sheet-is; words_are = a.words_are; says = rw (a.answer-is ∙ check-is _) at a.says }

row_of : {s owners w : List ℕ} {who i : ℕ} {r : EvpRow} → RowNumbers s owners w who i r
    → SharedRowCall s owners w who i (shared_row_answer s owners w who i)
unfolding row_numbers
row_of a = record { answer-is = refl; says = rw a.answer-is at a.says }

totals-of : {s owners w : List ℕ} {who : ℕ} {r : EvpTotals} → TotalsNumbers s owners w who r
    → SharedTotalsCall s owners w who (shared_totals_answer s owners w who)
unfolding totals_numbers
totals-of a = record { answer-is = refl; says = rw a.answer-is at a.says }

-- any list of calls: replies in Rattle whose numbers the C calls returned
record MadeInRattle (owners s w : List ℕ) (asks : List Ask) (replies : List Reply) (t u : List ℕ) : Type 0 where
  inside : List told.Reply
  made : rattle.Made owners s w asks inside t u
  numbers : replies ≡ map numbers_of inside

made_of : {owners s w t u : List ℕ} {asks : List Ask} {replies : List Reply} → Made owners s w asks replies t u
    → MadeInRattle owners s w asks replies t u
unfolding numbers_of
made_of none = record { inside = []; made = rattle.none; numbers = refl }
made_of (changed a m) =
    let rest = made_of m in
    record {
      inside = told.of_change _ ∷ rest.inside;
      made = rattle.changed (change-of a) rest.made;
      numbers = ap₂ ◌∷◌ (ap of_change a.answer-is) rest.numbers;
    }
made_of (row_read a m) =
    let rest = made_of m in
    record {
      inside = told.of_row _ ∷ rest.inside;
      made = rattle.row_read (row_of a) rest.made;
      numbers = ap₂ ◌∷◌ (ap of_row a.answer-is) rest.numbers;
    }
made_of (totals_read a m) =
    let rest = made_of m in
    record {
      inside = told.of_totals _ ∷ rest.inside;
      made = rattle.totals_read (totals-of a) rest.made;
      numbers = ap₂ ◌∷◌ (ap of_totals a.answer-is) rest.numbers;
    }

-- the same course in Rattle
course-of : {s owners w t u : List ℕ} {asks : List Ask} {replies : List Reply} (c : Course s owners w asks replies t u)
    → rattle.Course s owners w asks (made_of c.made).inside t u
course-of {s} {owners} {w} c = record {
  opened = c.opened;
  answer = shared_check s owners (length w);
  opening = open_of c.opening;
  accepted = open-passes c.opening c.accepted;
  made = (made_of c.made).made;
}

-- the numbers of the replies to one of the callers
numbers-to : (who : ℕ) (asks : List Ask) (inside : List told.Reply)
    → replies_to who asks (map numbers_of inside) ≡ map numbers_of (rattle.replies_to who asks inside)
unfolding replies_to rattle.replies_to
numbers-to who [] inside = refl
numbers-to who (ask ∷ asks) [] = refl
numbers-to who (ask ∷ asks) (r ∷ inside) = go (eqb (asker_of ask) who) _ (numbers-to who asks inside)
  where
    go : (mine : Bool) {l : List Reply} (k : List told.Reply) → l ≡ map numbers_of k
        → ◌≡◌ {A = List Reply} (elim mine [ true ↦ numbers_of r ∷ l | false ↦ l ]) (map numbers_of (elim mine [ true ↦ r ∷ k | false ↦ k ]))
    go true k e = ap (λ (x : List Reply). numbers_of r ∷ x) e
    go false k e = e

replies-are : {s owners w t u : List ℕ} {asks : List Ask} {replies : List Reply} (who : ℕ) (c : Course s owners w asks replies t u)
    → replies_to who asks replies ≡ map numbers_of (rattle.replies_to who asks (made_of c.made).inside)
replies-are {asks = asks} who c = ap (replies_to who asks) (made_of c.made).numbers ∙ numbers-to who asks (made_of c.made).inside

pub isolated-numbers : IsolatedTheorem
isolated-numbers who some s owners w t others v bytes bytes' same asks instead replies answers s' w' t' v' first second made =
    replies-are who first ∙
    ap (map numbers_of)
    (isolated who some s owners w t others v bytes bytes' same asks instead _ _ s' w' t' v' (course-of first) (course-of second) made) ∙
    sym (replies-are who second)

-- what is read: the answer of a reply that is known
row_is : {owners t u : List ℕ} {who i count : ℕ} {words : List ℕ} {r : EvpRow} → RowNumbers t owners u who i r
    → reply owners (record { sheet = t; words = u }) (told.read_row who i) ≡ told.of_row (row_told Pass count words)
    → r ≡ record { number = 0; place = 0; count = count; words = words }
unfolding reply row_numbers row_told number_of place_of count_told words_told
row_is {owners} {t} {u} {who} {i} {count} {words} a e =
    let same : shared_row_answer t owners u who i ≡ row_told Pass count words = cc in a.answer-is ∙ ap row_numbers same

totals-is : {owners t u : List ℕ} {who : ℕ} {words : List ℕ} {r : EvpTotals} → TotalsNumbers t owners u who r
    → reply owners (record { sheet = t; words = u }) (told.read_totals who) ≡ told.of_totals (totals_told Pass words)
    → r ≡ record { number = 0; place = 0; words = words }
unfolding reply totals_numbers totals_told number_of place_of words_of_totals
totals-is {owners} {t} {u} {who} {words} a e =
    let same : shared_totals_answer t owners u who ≡ totals_told Pass words = cc in a.answer-is ∙ ap totals_numbers same

pub course-numbers : CourseTheorem
course-numbers s owners w bytes asks replies t u c =
    let kept = course-kept s owners w bytes asks _ t u (course-of c) in
    record {
      kept = kept;
      row_read = λ who i r l may a. row_is a (kept.row_read who i l may);
      totals-read = λ r a. totals-is a kept.totals-read;
    }
