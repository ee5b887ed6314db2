-- Number 29 as a demand in plain arithmetic, after those of the report: a call is answered where all are met, and else the first that is not met
-- is returned, with its place.
-- Assumes nothing.
use mathlib.Core.List.{List}
use Prim.Native.Nat.{ℕ, ◌<◌}
use native.Mathlib.Omega.{arith}
use borrow.Author.Tests.{leb-true, leb-false}
use lib.Dec.{leb}
use lib.ListN.{length}
use Rattle.numbers.specs.Lists.{at}
use Rattle.exact.specs.Factors.{total}
use Rattle.sheet.specs.Limits.{vehicles_limit, fleet_limit}
use Rattle.sheet.specs.Versions.{version_of, has_many_rows}
use Rattle.sheet.specs.Bytes.{rows_of}
use Rattle.sheet.specs.Counts.{counts_of}
use Rattle.refusals.specs.Check.{number_of, place_of}
use Rattle.sheet.specs.Demands.{Says}
use Rattle.sheet.proofs.Checks.{Tests, Judges, judges-refuse, judges-then, ltb-tests, leb-shows, ||-tests, guarded, says}
use Rattle.inventory.proofs.CallConditions.{report-judged}
use Rattle.ledger.specs.declared.Call.{Call}
use Rattle.ledger.specs.declared.Call.TheVariants.{Arrival, Departure}
use Rattle.ledger.specs.Machine.{row_of, past, wrong}
use Rattle.ledger.specs.Ledger.{change_check, Within, change_demands}
use Rattle.ledger.proofs.Counts.{counts-length}

past-tests : (s : List ℕ) (call : Call) → Tests (past (has_many_rows s) (total (counts_of s)) (at (counts_of s) (row_of call)) call) (Within s call)
unfolding past row_of
past-tests s (Arrival row k) = ||-tests (ltb-tests vehicles_limit _) (guarded (leb-shows 4 (version_of s)) (ltb-tests fleet_limit _))
past-tests s (Departure row k) = ltb-tests (at (counts_of s) row) k

row-tests : (s : List ℕ) (row : ℕ) → Tests (leb (length (counts_of s)) row) (row < rows_of s)
row-tests s row =
    record {
      holds = λ h. omega (arith, leb-false (length (counts_of s)) row h, counts-length s);
      fails = λ t l. omega (arith, leb-true (length (counts_of s)) row t, counts-length s);
    }

-- the whole of 29
pub call-tests : (s : List ℕ) (call : Call) → Tests (wrong (has_many_rows s) (counts_of s) call) ((row_of call < rows_of s) × Within s call)
unfolding wrong
call-tests s call = ||-tests (row-tests s (row_of call)) (past-tests s call)

change-judged : (s : List ℕ) (room : ℕ) (call : Call) → Judges (change_check s room call) (change_demands s room call)
unfolding change_check
change-judged s room call = judges-then (report-judged s room) (judges-refuse (call-tests s call))

pub change-says : (s : List ℕ) (room : ℕ) (call : Call)
    → Says (change_demands s room call) (number_of (change_check s room call)) (place_of (change_check s room call))
change-says s room call = says (change_check s room call) (change-judged s room call)
