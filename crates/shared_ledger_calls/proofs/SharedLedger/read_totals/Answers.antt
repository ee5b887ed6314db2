-- `shared_ledger_calls::SharedLedger::read_totals` meets its contract.
-- Assumes nothing.
use mathlib.Core.Path.{ap}
use Prim.Native.Nat.{ℕ, ◌*◌}
use native.Mathlib.Omega.{arith}
use Rattle.refusals.proofs.Chain.{handed}
use Rattle.shared_ledger_calls.proofs.Outcome.{totals-refused, totals-done, totals-there}
use Rattle.shared_ledger_calls.proofs.SharedLedger.read_totals.Goals as goal

pub returns-in_err-owned : goal.returns-in_err-owned
returns-in_err-owned c =
    let refused = handed c.from_residual.result _ c.from_residual.ensures in
    rw refused (totals-refused _ _ _ _ c.in_err-owned.ensures)

pub words_at-requires : goal.words_at-requires
words_at-requires c =
    let at = totals-there _ _ c.args.self.now.words.now _ c.in_ok-owned.ensures.1 in
    (omega arith, omega (arith, at.1, rw c.in_ok-owned.ensures.0 at c.rows.ensures.0))

pub returns : goal.returns
returns c =
    totals-done _ _ _ _ c.in_ok-owned.ensures.1 c.words_at.ensures
    (ap (λ (n : ℕ). 6 * n) (rw c.in_ok-owned.ensures.0 at c.rows.ensures.0))
