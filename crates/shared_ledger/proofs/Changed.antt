-- A change of a shared ledger that passes: one row's count is another, all else is the same, and what is left would open again.
-- Assumes nothing.
use mathlib.Core.Bool.{Bool, true, false}
use mathlib.Core.List.{List}
use mathlib.Core.Path.{◌≡◌, refl, sym, ap, ◌∙◌}
use Prim.Native.Nat.{ℕ, suc, zero, ◌+◌, ◌-◌, ◌≤◌, ◌<◌}
use native.Mathlib.Decide.{ℕ_discrete}
use native.Mathlib.Omega.{arith}
use borrow.Author.Tests.{eqb-true, eq-eqb}
use lib.Dec.{eqb}
use lib.ListN.{length}
use Rattle.numbers.specs.Lists.{at, sum}
use Rattle.numbers.proofs.Lists.{sum-ext}
use Rattle.refusals.specs.declared.Rule.TheVariants as rule
use Rattle.refusals.proofs.Chain.{allowed, not_applied}
use Rattle.refusals.specs.Check.{Pass}
use Rattle.sheet.specs.Versions.{has_many_rows}
use Rattle.sheet.specs.Bytes.{rows_of, cells_of, season_list, row_at}
use Rattle.sheet.specs.Counts.{counts_of, with_count}
use Rattle.sheet.proofs.Checks.{then-pass, met-passes}
use Rattle.sheet.proofs.BeforeRows.{rows, season-list, cells}
use Rattle.sheet.proofs.Count.{before-rows, row-changed, row_kept}
use Rattle.sheet.proofs.RowDemands.{with_vehicles}
use Rattle.report_words.specs.Categories.{counted}
use Rattle.inventory.specs.ReportAnswers.{report_check}
use Rattle.inventory.proofs.CallConditions.{report-judged}
use Rattle.ledger.specs.declared.Call.{Call}
use Rattle.ledger.specs.declared.Call.TheVariants.{Arrival, Departure}
use Rattle.ledger.specs.Machine.{row_of, moved, wrong, new_count}
use Rattle.ledger.specs.Ledger.{sheet_after, Ledger, answer, after}
use Rattle.ledger.proofs.Counts.{count_at}
use Rattle.ledger.proofs.Kept.{answer-open, count_bits, row_inside, room}
use Rattle.shared_ledger.specs.Opening.{vehicles_each, vehicles_held, shared_check}
use Rattle.shared_ledger.specs.Calls.{owner_of, shared_change_check, WithinShare}
use Rattle.shared_ledger.proofs.Conditions.{shared-judged, change-judged, shared-report, shared-share}
use Rattle.shared_ledger.proofs.Holdings.{owner-there, owned-there, held-upto, held-most}

-- what a change that passes has met
pub record Passed (s owners : List ℕ) (room who : ℕ) (call : Call) : Type 0 where
  pub shared : shared_check s owners room ≡ Pass
  pub some : 0 < who
  pub owner : owner_of s owners (row_of call) ≡ who
  pub right : wrong (has_many_rows s) (counts_of s) call ≡ false
  pub within : WithinShare (vehicles_held s owners who (rows_of s)) call

pub change-passed : (s owners : List ℕ) (room who : ℕ) (call : Call) → shared_change_check s owners room who call ≡ Pass
    → Passed s owners room who call
unfolding shared_change_check
change-passed s owners room who call h =
    let met = (change-judged s owners room who call).passes h in
    let (shared, rest) = then-pass _ _ h in
    let (owner, later) = then-pass _ _ rest in
    record {
      shared = shared;
      some = met.1.0.0;
      owner = met.1.0.1;
      right = not_applied (wrong (has_many_rows s) (counts_of s) call) rule.Count 0 refl (then-pass _ _ later).0;
      within = met.1.1.1;
    }

-- t is s with v vehicles in row i
pub record OneMoved (s t : List ℕ) (i v : ℕ) : Type 0 where
  pub rows_same : rows_of t ≡ rows_of s
  pub cells_same : cells_of t ≡ cells_of s
  pub seasons-same : season_list t ≡ season_list s
  pub here : row_at t i ≡ with_vehicles (row_at s i) v
  pub elsewhere : (j : ℕ) → ¬ (j ≡ i) → row_at t j ≡ row_at s j

-- A sum in which one term is another grows by no more than that term does.
module _ (f g : ℕ → ℕ) (i : ℕ) (same : (j : ℕ) → ¬ (j ≡ i) → g j ≡ f j) where
  sum-grows : (n : ℕ) → sum g n ≤ sum f n + (g i - f i)
  unfolding sum
  sum-grows zero = omega arith
  sum-grows (suc n) =
      elim (ℕ_discrete n i) [
        | yes e ↦ rw e (omega (arith, sum-ext {f = g} {g = f} i (λ k l. same k (λ q. omega arith))))
        | no e ↦ omega (arith, sum-grows n, same n e)
      ]

counted-grows : (b : Bool) (v w : ℕ) → counted b v - counted b w ≤ counted b (v - w)
unfolding counted
counted-grows true v w = omega arith
counted-grows false v w = omega arith

-- So what one holds grows by no more than the row, and for others not at all.
held-grows : {s t : List ℕ} {i v : ℕ} → OneMoved s t i v → (owners : List ℕ) (who n : ℕ)
    → vehicles_held t owners who n ≤ vehicles_held s owners who n + counted (eqb (at owners i) who) (v - (row_at s i).vehicles)
unfolding vehicles_held
held-grows {s} {t} {i} {v} m owners who n =
    let here : counted (eqb (at owners i) who) (row_at t i).vehicles ≡ counted (eqb (at owners i) who) v = rw m.here refl in
    omega (
      arith,
      sum-grows (λ (j : ℕ). counted (eqb (at owners j) who) (row_at s j).vehicles)
          (λ (j : ℕ). counted (eqb (at owners j) who) (row_at t j).vehicles) i (λ j e. rw (m.elsewhere j e) refl) n,
      counted-grows (eqb (at owners i) who) v (row_at s i).vehicles,
      here,
    )

-- an arrival within a participant's vehicles, and any departure
moved-within : (held v : ℕ) (call : Call) → held ≤ vehicles_each → WithinShare held call → held + (moved v call - v) ≤ vehicles_each
unfolding moved
moved-within held v (Arrival row k) h within = omega arith
moved-within held v (Departure row k) h within = omega arith

-- A ledger that opens, and a change of it that passes.
module _ (x : Ledger) (owners : List ℕ) (who : ℕ) (call : Call)
    (passes : shared_change_check x.sheet owners (length x.words) who call ≡ Pass) where
  abbrev s : List ℕ
  s = x.sheet

  abbrev i : ℕ
  i = row_of call

  met : Passed x.sheet owners (length x.words) who call
  met = change-passed x.sheet owners (length x.words) who call passes

  opens : report_check x.sheet (length x.words) ≡ Pass
  opens = shared-report x.sheet owners (length x.words) met.shared

  row-theirs : row_of call < rows_of x.sheet
  row-theirs = owned-there s owners who i met.some (eq-eqb (owner_of s owners i) who met.owner)

  -- the ledger's own call passes
  pub ledger-passes : answer x call ≡ Pass
  unfolding answer
  ledger-passes = answer-open s (length x.words) call opens ∙ sym (allowed rule.Count 0 met.right)

  sheet-is : (after x call).sheet ≡ with_count s i (new_count (counts_of s) call)
  unfolding after sheet_after
  sheet-is = rw ledger-passes refl

  new_is : new_count (counts_of s) call ≡ moved (row_at s i).vehicles call
  new_is = ap (λ (n : ℕ). moved n call) (count_at s i row-theirs)

  pub one-moved : OneMoved x.sheet (after x call).sheet (row_of call) (moved (row_at x.sheet (row_of call)).vehicles call)
  one-moved =
      let v = new_count (counts_of s) call in
      let bits = count_bits s (length x.words) call opens met.right in
      let inside = row_inside s (length x.words) call opens met.right in
      let same = before-rows s i v bits inside in
      record {
        rows_same = rw sheet-is (rows same);
        cells_same = rw sheet-is (cells same);
        seasons-same = rw sheet-is (season-list same);
        here = rw (sheet-is, ← new_is) (row-changed s i v bits inside);
        elsewhere = λ j n. rw sheet-is (row_kept s i v bits inside j n);
      }

  -- no one holds more than the limit
  held-still : (o n : ℕ) → n ≤ rows_of s → vehicles_held (after x call).sheet owners o n ≤ vehicles_each
  unfolding counted
  held-still o n l =
      omega (
        arith,
        held-upto (after x call).sheet owners o n (rows_of s) l,
        held-grows one-moved owners o (rows_of s),
        go (eqb (at owners i) o) refl,
      )
    where
      held : (o : ℕ) → vehicles_held s owners o (rows_of s) ≤ vehicles_each
      held o = held-most s owners (length x.words) met.shared o (rows_of s) (omega arith)

      go : (b : Bool) → eqb (at owners i) o ≡ b → vehicles_held s owners o (rows_of s) + counted (eqb (at owners i) o)
          (moved (row_at s i).vehicles call - (row_at s i).vehicles) ≤ vehicles_each
      go true e =
          let same : who ≡ o = sym met.owner ∙ owner-there s owners i row-theirs ∙ eqb-true (at owners i) o e in
          rw (e, ← same) (moved-within (vehicles_held s owners who (rows_of s)) (row_at s i).vehicles call (held who) met.within)
      go false e = rw e (omega (arith, held o))

  -- so it would open again
  pub shared-still : (room : ℕ) → report_check (after x call).sheet room ≡ Pass → shared_check (after x call).sheet owners room ≡ Pass
  shared-still room opens' =
      met-passes (shared_check (after x call).sheet owners room) (shared-judged (after x call).sheet owners room) (
        (report-judged (after x call).sheet room).passes opens',
        λ j l.
            let inside : j < rows_of s = rw one-moved.rows_same at l in
            let as_before = shared-share s owners (length x.words) met.shared j inside in
            record {
              owner-least = as_before.owner-least;
              owner-most = as_before.owner-most;
              rows-most = as_before.rows-most;
              vehicles-most = held-still (at owners j) (j + 1) (omega arith);
            },
      )
