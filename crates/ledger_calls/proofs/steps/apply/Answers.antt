-- `ledger_calls::steps::apply` meets its contract: the count is changed, and the words of its row and all sums are made anew.
-- The answers name the same sheet and row, each of its own context.
-- Assumes nothing.
use Rattle.std.proofs.Common.{rules}
use mathlib.Core.Path.{◌≡◌, ◌∙◌, ap}
use Prim.Native.Nat.{ℕ}
use native.Mathlib.Omega.{arith}
use mathlib.Core.List.{List}
use Rattle.ledger.specs.declared.Call.{Call}
use Rattle.sheet.specs.Counts.{counts_of, with_count}
use Rattle.sheet.proofs.Places.{row-there}
use Rattle.report_sums.specs.Renewed.{renewed}
use Rattle.inventory.proofs.CallConditions.{report-sheet}
use Rattle.ledger.specs.Machine.{row_of, new_count}
use Rattle.ledger.specs.Ledger.{sheet_after, words_after}
use Rattle.ledger_calls.proofs.Outcome.{right-room, row-named-there, new-most, with-count-same}
use Rattle.ledger_calls.proofs.steps.apply.Goals as goal

pub invariant_of-count_after : goal.invariant_of-count_after
invariant_of-count_after c = record { passed = report-sheet _ _ c.requires.0; are_bytes = λ k. search rules }

pub set_vehicles-requires : goal.set_vehicles-requires
set_vehicles-requires c =
    let p = c.requires in
    let pass = report-sheet _ _ p.0 in
    rw c.row-i.ensures (row-there _ pass (row-named-there _ pass _ p.1))

pub overflow_cast-new : goal.overflow_cast-new
overflow_cast-new c =
    let p = c.requires in
    record { fits = omega (arith, c.count_after-new.ensures, new-most _ (report-sheet _ _ p.0) _ p.1) }

-- the sheet has the new count: v is what `count_after` returned, and i the row that `row_named` did
stored_is : (s t : List ℕ) (call : Call) {i v : ℕ} → t ≡ with_count s i v → i ≡ row_of call → v ≡ new_count (counts_of s) call
    → t ≡ with_count s (row_of call) (new_count (counts_of s) call)
stored_is s t call set named count = set ∙ with-count-same s named count

pub renew_row-requires : goal.renew_row-requires
renew_row-requires c =
    let x = c.args in
    rw (stored_is _ _ x.call c.set_vehicles.ensures c.row-i.ensures c.count_after-new.ensures, c.row-i.ensures)
    (right-room x.s.now x.words.now x.call c.requires.0 c.requires.1).1

pub invariant_of-renew_row : goal.invariant_of-renew_row
invariant_of-renew_row c =
    let x = c.args in
    record {
      passed = rw (stored_is _ _ x.call c.set_vehicles.ensures c.row-i.ensures c.count_after-new.ensures)
          (right-room x.s.now x.words.now x.call c.requires.0 c.requires.1).0;
      are_bytes = λ k. search rules;
    }

pub returns : goal.returns
unfolding sheet_after words_after
returns c =
    let x = c.args in
    let named = c.row-i.ensures in (
      stored_is _ _ x.call c.set_vehicles.ensures named c.count_after-new.ensures,
      c.renew_row.ensures ∙ ap (λ (i : ℕ). renewed c.set_vehicles.new.s i x.words.now) named,
    )
