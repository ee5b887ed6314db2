-- `shared_ledger_calls::SharedLedger::read_row` meets its contract.
-- Assumes nothing.
use native.Mathlib.Omega.{arith}
use Rattle.refusals.proofs.Chain.{handed}
use Rattle.sheet.proofs.Accepted.{accepted}
use Rattle.sheet.proofs.Versions.{rows-limit}
use Rattle.shared_ledger_calls.proofs.Outcome.{row-refused, row_done, read-there}
use Rattle.shared_ledger_calls.proofs.SharedLedger.read_row.Goals as goal

pub returns-in_err-owned : goal.returns-in_err-owned
returns-in_err-owned c =
    let refused = handed c.from_residual.result _ c.from_residual.ensures in
    rw refused (row-refused _ _ _ _ _ c.in_err-owned.ensures)

pub overflow_mul-i : goal.overflow_mul-i
overflow_mul-i c =
    let x = c.args.self.now in
    let at = read-there _ _ x.words.now _ _ c.in_ok-owned.ensures.1 in
    record { fits = omega (arith, at.1, (accepted _ at.0).rows-most, rows-limit x.sheet.now) }

pub words_at-requires : goal.words_at-requires
words_at-requires c =
    let at = read-there _ _ c.args.self.now.words.now _ _ c.in_ok-owned.ensures.1 in
    (omega arith, omega (arith, at.1, at.2))

pub returns : goal.returns
returns c =
    row_done _ _ _ _ _ c.in_ok-owned.ensures.1 (rw c.in_ok-owned.ensures.0 at c.vehicles.ensures.0) c.words_at.ensures

pub vehicles-requires : goal.vehicles-requires
vehicles-requires c =
    let at = read-there _ _ c.args.self.now.words.now _ _ c.in_ok-owned.ensures.1 in
    rw c.in_ok-owned.ensures.0 at.1
