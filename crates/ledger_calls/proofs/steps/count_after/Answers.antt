-- `ledger_calls::steps::count_after` meets its contract: an allowed call neither passes the row's limit nor goes below 0.
-- Assumes nothing.
use mathlib.Core.Bool.{false}
use mathlib.Core.List.{List}
use mathlib.Core.Path.{◌≡◌, ◌∙◌}
use Prim.Native.Nat.{ℕ, ◌<◌}
use native.Mathlib.Omega.{arith}
use Rattle.numbers.specs.Lists.{at}
use Rattle.exact.specs.Factors.{total}
use Rattle.refusals.specs.Check.{Pass}
use Rattle.sheet.specs.Sheet.{sheet_check}
use Rattle.sheet.specs.Bytes.{rows_of, row_at}
use Rattle.sheet.specs.Versions.{has_many_rows}
use Rattle.sheet.specs.Counts.{counts_of}
use Rattle.ledger.specs.declared.Call.{Call}
use Rattle.ledger.specs.Machine.{row_of, moved, past, wrong}
use Rattle.ledger_calls.proofs.Outcome.{row-named-there, entry-is, past-wrong, arrival-fits, departure-fits}
use Rattle.ledger_calls.proofs.steps.count_after.Goals as goal

pub vehicles-v-requires : goal.vehicles-v-requires
vehicles-v-requires c = rw c.row.ensures (row-named-there _ c.args.sheet.passed _ c.requires)

module _ (s : List ℕ) (pass : sheet_check s ≡ Pass) (call : Call) (right : wrong (has_many_rows s) (counts_of s) call ≡ false)
    {row v : ℕ} (named : row ≡ row_of call) (is : v ≡ (row_at s row).vehicles) where
  there : row < rows_of s
  there = rw named (row-named-there s pass call right)

  -- the row's vehicles are the machine's entry
  entry : at (counts_of s) (row_of call) ≡ v
  entry = entry-is s pass call named there is

  -- and the call does not pass them
  within : past (has_many_rows s) (total (counts_of s)) v call ≡ false
  within = past-wrong s pass call named there is ∙ right

pub overflow_add-result : goal.overflow_add-result
overflow_add-result c =
    record {
      fits = omega (
        arith,
        arrival-fits _ _ _ c.in-Arrival.is (within _ c.args.sheet.passed _ c.requires c.row.ensures
            c.vehicles-v.ensures.0),
      );
    }

pub overflow_sub-result : goal.overflow_sub-result
overflow_sub-result c =
    departure-fits _ _ _ c.in-Departure.is (within _ c.args.sheet.passed _ c.requires c.row.ensures c.vehicles-v.ensures.0)

pub returns-in-Arrival : goal.returns-in-Arrival
unfolding moved
returns-in-Arrival c = cc (entry _ c.args.sheet.passed _ c.requires c.row.ensures c.vehicles-v.ensures.0)

pub returns-in-Departure : goal.returns-in-Departure
unfolding moved
returns-in-Departure c = cc (entry _ c.args.sheet.passed _ c.requires c.row.ensures c.vehicles-v.ensures.0)
