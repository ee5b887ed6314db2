-- `ledger_calls::change` meets its contract: what is refused stays as it is, and what is allowed is carried out.
-- Assumes nothing.
use mathlib.Core.Path.{sym, ◌∙◌}
use Rattle.refusals.proofs.Chain.{handed}
use Rattle.ledger_calls.proofs.Outcome.{call-refused, call-passes, right-call}
use Rattle.ledger_calls.proofs.change.Goals as goal

pub returns-in_err-change_check : goal.returns-in_err-change_check
returns-in_err-change_check c =
    let refused = handed c.from_residual.result _ c.from_residual.ensures in
    call-refused _ _ _ (refused ∙ sym c.in_err-change_check.was ∙ c.change_check.ensures) refused

pub apply-requires : goal.apply-requires
apply-requires c = call-passes _ _ _ (sym c.change_check.ensures ∙ c.in_ok-change_check.was)

pub returns : goal.returns
returns c =
    let passes = call-passes _ _ _ (sym c.change_check.ensures ∙ c.in_ok-change_check.was) in
    right-call _ _ _ passes.0 passes.1 c.apply.ensures.0 c.apply.ensures.1
