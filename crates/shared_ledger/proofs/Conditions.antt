-- Numbers 30 and 31 as demands in plain arithmetic, after those of the report and beside 29: a call is answered where all are met, and else the
-- first that is not met is returned, with its place.
-- Assumes nothing.
use mathlib.Core.Bool.{Bool, true, false, not, ◌||◌}
use mathlib.Core.List.{List}
use mathlib.Core.Logic.{◌⊎◌, ⊎_elim, inl, inr}
use mathlib.Core.Path.{◌≡◌, refl, sym}
use Prim.Native.Nat.{ℕ, ◌+◌, ◌*◌, ◌≤◌, ◌<◌}
use native.Mathlib.Omega.{arith}
use borrow.Author.Tests.{ltb-true, ltb-false, leb-true, leb-false}
use lib.Dec.{leb, ltb, eqb}
use Rattle.numbers.specs.Lists.{at}
use Rattle.refusals.specs.Check.{Pass, number_of, place_of}
use Rattle.sheet.specs.Bytes.{rows_of}
use Rattle.sheet.specs.Demands.{Says}
use Rattle.sheet.specs.Sheet.{outside, sheet_check}
use Rattle.sheet.proofs.Checks.{Tests, Shows, Judges, judges-refuse, judges-then, judges-each, ltb-tests, ||-tests}
use Rattle.sheet.proofs.Checks.{tests-as, not-tests, eqb-shows, &&-shows, says, then-pass, true-is-not-false}
use Rattle.refusals.proofs.Numbers.{zero-passes}
use Rattle.report_words.specs.Categories.{report_length}
use Rattle.inventory.specs.ReportAnswers.{report_check}
use Rattle.inventory.proofs.CallConditions.{report-judged, report-sheet, report-accepted}
use Rattle.ledger.specs.declared.Call.{Call}
use Rattle.ledger.specs.declared.Call.TheVariants.{Arrival, Departure}
use Rattle.ledger.specs.Machine.{row_of}
use Rattle.ledger.proofs.Conditions.{call-tests}
use Rattle.shared_ledger.specs.Opening.{vehicles_each, participants, rows_each, rows_held, vehicles_held, share_wrong, share_check, shared_check}
use Rattle.shared_ledger.specs.Opening.{Share, shared_demands}
use Rattle.shared_ledger.specs.Calls.{owner_of, may_change, may_read, may_total, past_share, shared_change_check}
use Rattle.shared_ledger.specs.Calls.{shared_row_check, shared_totals_check, WithinShare}
use Rattle.shared_ledger.specs.Calls.{shared_change_demands, shared_row_demands, shared_totals_demands}

-- a row and its owner
share-tests : (s owners : List ℕ) (i : ℕ) → Tests (share_wrong s owners i) (Share s owners i)
unfolding share_wrong outside
share-tests s owners i =
    let who = at owners i in
    tests-as
    (λ t. record { owner-least = t.0.0.0; owner-most = t.0.0.1; rows-most = t.0.1; vehicles-most = t.1 })
    (λ h. (((h.owner-least, h.owner-most), h.rows-most), h.vehicles-most))
    (||-tests
    (||-tests (||-tests (ltb-tests who 1) (ltb-tests participants who)) (ltb-tests rows_each (rows_held owners who (i + 1))))
    (ltb-tests vehicles_each (vehicles_held s owners who (i + 1))))

pub shared-judged : (s owners : List ℕ) (room : ℕ) → Judges (shared_check s owners room) (shared_demands s owners room)
unfolding shared_check share_check
shared-judged s owners room = judges-then (report-judged s room) (judges-each (rows_of s) (λ i. judges-refuse (share-tests s owners i)))

-- the rights
ltb-shows : (x y : ℕ) → Shows (ltb x y) (x < y)
ltb-shows x y = record { shown = ltb-true x y; denied = λ h l. omega (arith, ltb-false x y h) }

or-shows : (b : Bool) {c : Bool} {A B : Type 0} → Shows b A → Shows c B → Shows (b || c) (A ⊎ B)
or-shows true a b = record { shown = λ h. inl (a.shown h); denied = λ h. absurd (true-is-not-false h) }
or-shows false a b = record { shown = λ h. inr (b.shown h); denied = λ h. ⊎_elim (a.denied refl) (b.denied h) }

change-tests : (s owners : List ℕ) (who i : ℕ) → Tests (not (may_change s owners who i)) ((0 < who) × (owner_of s owners i ≡ who))
unfolding may_change
change-tests s owners who i = not-tests (&&-shows (ltb-shows 0 who) (eqb-shows (owner_of s owners i) who))

read-tests : (s owners : List ℕ) (who i : ℕ) → Tests (not (may_read s owners who i)) ((who ≡ 0) ⊎ (owner_of s owners i ≡ who))
unfolding may_read
read-tests s owners who i = not-tests (or-shows (eqb who 0) (eqb-shows who 0) (eqb-shows (owner_of s owners i) who))

totals-tests : (who : ℕ) → Tests (not (may_total who)) (who ≡ 0)
unfolding may_total
totals-tests who = not-tests (eqb-shows who 0)

row-tests : (s : List ℕ) (i : ℕ) → Tests (leb (rows_of s) i) (i < rows_of s)
row-tests s i = record { holds = leb-false (rows_of s) i; fails = λ t l. omega (arith, leb-true (rows_of s) i t) }

-- a participant's vehicles
past-tests : (held : ℕ) (call : Call) → Tests (past_share held call) (WithinShare held call)
unfolding past_share
past-tests held (Arrival row k) = ltb-tests vehicles_each (held + k)
past-tests held (Departure row k) = record { holds = λ h. tt; fails = λ h. absurd (true-is-not-false (sym h)) }

-- each call
pub change-judged : (s owners : List ℕ) (room who : ℕ) (call : Call)
    → Judges (shared_change_check s owners room who call) (shared_change_demands s owners room who call)
unfolding shared_change_check
change-judged s owners room who call =
    judges-then (shared-judged s owners room)
    (judges-then (judges-refuse (change-tests s owners who (row_of call)))
    (judges-then (judges-refuse (call-tests s call)) (judges-refuse (past-tests (vehicles_held s owners who (rows_of s)) call))))

row-judged : (s owners : List ℕ) (room who i : ℕ) → Judges (shared_row_check s owners room who i) (shared_row_demands s owners room who i)
unfolding shared_row_check
row-judged s owners room who i =
    judges-then (shared-judged s owners room) (judges-then (judges-refuse (read-tests s owners who i)) (judges-refuse (row-tests s i)))

totals-judged : (s owners : List ℕ) (room who : ℕ) → Judges (shared_totals_check s owners room who) (shared_totals_demands s owners room who)
unfolding shared_totals_check
totals-judged s owners room who = judges-then (shared-judged s owners room) (judges-refuse (totals-tests who))

pub shared_says : (s owners : List ℕ) (room : ℕ)
    → Says (shared_demands s owners room) (number_of (shared_check s owners room)) (place_of (shared_check s owners room))
shared_says s owners room = says (shared_check s owners room) (shared-judged s owners room)

pub change-says : (s owners : List ℕ) (room who : ℕ) (call : Call)
    → Says (shared_change_demands s owners room who call) (number_of (shared_change_check s owners room who call))
    (place_of (shared_change_check s owners room who call))
change-says s owners room who call =
    says (shared_change_check s owners room who call) (change-judged s owners room who call)

pub row-says : (s owners : List ℕ) (room who i : ℕ)
    → Says (shared_row_demands s owners room who i) (number_of (shared_row_check s owners room who i))
    (place_of (shared_row_check s owners room who i))
row-says s owners room who i =
    says (shared_row_check s owners room who i) (row-judged s owners room who i)

pub totals-says : (s owners : List ℕ) (room who : ℕ)
    → Says (shared_totals_demands s owners room who) (number_of (shared_totals_check s owners room who))
    (place_of (shared_totals_check s owners room who))
totals-says s owners room who =
    says (shared_totals_check s owners room who) (totals-judged s owners room who)

-- so a number 0 passes
pub shared-zero : (s owners : List ℕ) (room : ℕ) → number_of (shared_check s owners room) ≡ 0 → shared_check s owners room ≡ Pass
shared-zero s owners room = zero-passes (shared_check s owners room)

-- What an opening that passes says.
module _ (s owners : List ℕ) (room : ℕ) (h : shared_check s owners room ≡ Pass) where
  pub shared-report : report_check s room ≡ Pass
  unfolding shared_check
  shared-report = (then-pass _ _ h).0

  pub shared-sheet : sheet_check s ≡ Pass
  shared-sheet = report-sheet s room shared-report

  pub shared-room : 6 * rows_of s + 26 ≤ room
  unfolding report_length
  shared-room = (report-accepted s room shared-report).1

  pub shared-share : (i : ℕ) → i < rows_of s → Share s owners i
  shared-share i l = ((shared-judged s owners room).passes h).1 i l
