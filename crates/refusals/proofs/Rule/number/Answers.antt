-- `refusals::Rule::number` meets its contract.
-- Assumes nothing.
use Rattle.refusals.proofs.Numbers.{number-is}
use Rattle.refusals.proofs.Rule.number.Goals as goal

pub returns : goal.returns
returns c = number-is c.args.self
