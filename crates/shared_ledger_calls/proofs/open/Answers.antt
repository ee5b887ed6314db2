-- `shared_ledger_calls::open` meets its contract.
-- Assumes nothing.
use mathlib.Core.Path.{refl, sym, ◌∙◌}
use Rattle.refusals.proofs.Chain.{handed}
use Rattle.sheet.proofs.Accepted.{Bytes}
use Rattle.report_words.specs.Categories.{report_length}
use Rattle.shared_ledger.proofs.Conditions.{shared-room}
use Rattle.shared_ledger_calls.proofs.Outcome.{open-refused, open_done}
use Rattle.shared_ledger_calls.proofs.open.Goals as goal

pub returns-in_err-owned : goal.returns-in_err-owned
returns-in_err-owned c =
    let refused = handed c.from_residual.result _ c.from_residual.ensures in
    open-refused _ _ _ (refused ∙ sym c.in_err-owned.ensures) refused

pub write_report-requires : goal.write_report-requires
unfolding report_length
write_report-requires c =
    let (same, owners, passed) = c.in_ok-owned.ensures in
    rw same (shared-room _ _ _ passed)

pub returns : goal.returns
returns c =
    let bytes : Bytes c.args.sheet.now = record { byte = λ k. (c.type_inv.sheet k).fits } in
    let (same, owners, passed) = c.in_ok-owned.ensures in
    open_done _ _ _ bytes (sym passed) refl (rw same at c.write_report.ensures)
