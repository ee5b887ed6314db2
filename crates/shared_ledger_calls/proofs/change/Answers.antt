-- `shared_ledger_calls::change` meets its contract.
-- Assumes nothing.
use mathlib.Core.Path.{refl, sym, ◌∙◌}
use Rattle.refusals.proofs.Chain.{handed}
use Rattle.shared_ledger.specs.Caller.{who_of}
use Rattle.shared_ledger_calls.proofs.Outcome.{change-refused, change-allowed, change-done}
use Rattle.shared_ledger_calls.proofs.change.Goals as goal

pub returns-in_err-change_check : goal.returns-in_err-change_check
returns-in_err-change_check c =
    let refused = handed c.from_residual.result _ c.from_residual.ensures in
    change-refused _ _ _ _ _ (refused ∙ sym c.in_err-change_check.was ∙ c.change_check.ensures) refused

pub apply-requires : goal.apply-requires
apply-requires c =
    let x = c.args in
    change-allowed x.sheet.now x.owners.now x.words.now (who_of x.who) x.call c.change_check.ensures c.in_ok-change_check.was

pub returns : goal.returns
returns c =
    let e = c.apply.ensures in
    change-done _ _ _ _ _ (sym c.in_ok-change_check.was ∙ c.change_check.ensures) refl e.0 e.1
