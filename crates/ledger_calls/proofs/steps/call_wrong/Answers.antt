-- `ledger_calls::steps::call_wrong` meets its contract.
-- Assumes nothing.
use mathlib.Core.Path.{◌∙◌}
use native.Mathlib.Omega.{arith}
use Rattle.ledger_calls.proofs.Outcome.{absent-wrong, past-wrong}
use Rattle.ledger_calls.proofs.steps.call_wrong.Goals as goal

pub returns-then-rows-row : goal.returns-then-rows-row
returns-then-rows-row c = absent-wrong _ c.args.sheet.passed _ (omega (arith, c.row-row.ensures))

pub returns : goal.returns
returns c =
    c.is_past.ensures ∙ past-wrong _ c.args.sheet.passed _ c.row-row.ensures (omega arith) c.vehicles.ensures.0
