-- `sheet_factors::factors_at::list_for` meets its contract: without a canister no list is asked for.
use Rattle.std.proofs.Common.{◌<◌, arith}
use Rattle.sheet.specs.Range.{halves}
use Rattle.sheet_factors.proofs.factors_at.list_for.Goals as goal

pub returns-in-None : goal.returns-in-None
unfolding halves
returns-in-None c = λ some. let none : 0 < 0 = rw c.in-None.is at some in absurd (omega arith)
