-- `bounds::exp::middle` meets its contract: the table is the list.
use Rattle.std.proofs.Common.{refl}
use Rattle.bounds.specs.Exponential.{middle}
use Rattle.bounds.proofs.Sizes.{middle-below}
use Rattle.bounds.proofs.exp.middle.Goals as goal

pub returns : goal.returns
unfolding middle
returns c = (refl, middle-below _ c.requires)
