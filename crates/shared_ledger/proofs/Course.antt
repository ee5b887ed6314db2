-- What the functions' contracts say, call by call, is the run of which the theorems of the shared ledger speak.
-- Assumes nothing.
use mathlib.Core.Bool.{Bool, true, false}
use mathlib.Core.List.{List, ◌∷◌}
use mathlib.Core.Path.{◌≡◌, refl, sym, ap, ap₂, ◌∙◌}
use Prim.Native.Nat.{ℕ}
use lib.Dec.{eqb}
use lib.ListN.{length}
use Rattle.refusals.specs.Check.{Pass}
use Rattle.ledger.specs.Ledger.{Ledger, opened}
use Rattle.shared_ledger.specs.Opening.{shared_check}
use Rattle.shared_ledger.specs.Told.{Ask, change, read_row, read_totals, asker_of, Reply, reply, after_ask, told, run_asks}
use Rattle.shared_ledger.specs.Course.{Made, none, changed, row_read, totals_read, Course, replies_to, IsolatedTheorem, CourseTheorem}
use Rattle.shared_ledger.proofs.Runs.{ledger_of, open_is, change-answers, change-leaves, row-answers, totals-answers}
use Rattle.shared_ledger.proofs.Isolation.{isolation}
use Rattle.shared_ledger.proofs.Kept.{shared_kept}

-- a reply more, to one of the callers
told_more : (owners : List ℕ) (x : Ledger) (who : ℕ) (ask : Ask) (asks : List Ask) {r : Reply} (replies : List Reply) {y : Ledger}
    → r ≡ reply owners x ask → y ≡ after_ask owners x ask → replies_to who asks replies ≡ told owners who asks y
    → replies_to who (ask ∷ asks) (r ∷ replies) ≡ told owners who (ask ∷ asks) x
unfolding replies_to told
told_more owners x who ask asks replies h left rest = go (eqb (asker_of ask) who) h (rest ∙ ap (told owners who asks) left)
  where
    go : (mine : Bool) {r r' : Reply} {l l' : List Reply} → r ≡ r' → l ≡ l'
        → ◌≡◌ {A = List Reply} (elim mine [ true ↦ r ∷ l | false ↦ l ]) (elim mine [ true ↦ r' ∷ l' | false ↦ l' ])
    go true e f = ap₂ ◌∷◌ e f
    go false e f = f

-- what a reading leaves
row-leaves : (owners : List ℕ) (x : Ledger) (who i : ℕ) → x ≡ after_ask owners x (read_row who i)
unfolding after_ask
row-leaves owners x who i = refl

totals-leaves : (owners : List ℕ) (x : Ledger) (who : ℕ) → x ≡ after_ask owners x (read_totals who)
unfolding after_ask
totals-leaves owners x who = refl

-- any list of calls: what is told, and what is left
made_told : {owners s w t u : List ℕ} {asks : List Ask} {replies : List Reply} (who : ℕ) → Made owners s w asks replies t u
    → replies_to who asks replies ≡ told owners who asks (ledger_of s w)
unfolding replies_to told
made_told who none = refl
made_told {owners} {s} {w} who (changed {who = by} {call = call} {asks = asks} {replies = replies} a m) =
    told_more owners (ledger_of s w) who (change by call) asks replies (change-answers a) (change-leaves a) (made_told who m)
made_told {owners} {s} {w} who (row_read {who = by} {i = i} {asks = asks} {replies = replies} a m) =
    told_more owners (ledger_of s w) who (read_row by i) asks replies (row-answers a) (row-leaves owners (ledger_of s w) by i) (made_told who m)
made_told {owners} {s} {w} who (totals_read {who = by} {asks = asks} {replies = replies} a m) =
    told_more owners (ledger_of s w) who (read_totals by) asks replies (totals-answers a) (totals-leaves owners (ledger_of s w) by) (made_told who m)

made-leaves : {owners s w t u : List ℕ} {asks : List Ask} {replies : List Reply} → Made owners s w asks replies t u
    → ledger_of t u ≡ run_asks owners asks (ledger_of s w)
unfolding run_asks after_ask
made-leaves none = refl
made-leaves {owners} (changed {asks = asks} a m) = made-leaves m ∙ ap (run_asks owners asks) (change-leaves a)
made-leaves (row_read a m) = made-leaves m
made-leaves (totals_read a m) = made-leaves m

-- a course's opening passes the check
opens : {s owners w t u : List ℕ} {asks : List Ask} {replies : List Reply} → Course s owners w asks replies t u
    → shared_check s owners (length w) ≡ Pass
opens course = sym course.opening.answer-is ∙ course.accepted

pub isolated : IsolatedTheorem
isolated who some s owners w t others v bytes bytes' same asks instead replies answers s' w' t' v' first second made =
    made_told who first.made ∙
    ap (told owners who asks) (open_is first.opening first.accepted) ∙
    isolation who some s owners w t others v bytes bytes' (opens first) (opens second) same asks instead made ∙
    sym (made_told who second.made ∙ ap (told others who instead) (open_is second.opening second.accepted))

pub course-kept : CourseTheorem
course-kept s owners w bytes asks replies t u course =
    let same : ledger_of t u ≡ run_asks owners asks (opened s w)
    = made-leaves course.made ∙ ap (run_asks owners asks) (open_is course.opening course.accepted) in
    rw same (shared_kept s owners w bytes (opens course) asks)
