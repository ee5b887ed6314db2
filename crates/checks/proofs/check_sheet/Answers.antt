-- `checks::check_sheet` meets its contract: what the table answers says which demand is not met.
use Rattle.sheet.proofs.Conditions.{sheet-says}
use Rattle.checks.proofs.check_sheet.Goals as goal

pub returns : goal.returns
returns c = (c.stages.ensures, rw c.stages.ensures (sheet-says _))
