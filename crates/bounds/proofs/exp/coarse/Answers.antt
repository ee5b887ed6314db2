-- `bounds::exp::coarse` meets its contract: the table is the list.
use Rattle.std.proofs.Common.{refl}
use Rattle.bounds.specs.Exponential.{coarse}
use Rattle.bounds.proofs.Sizes.{coarse-below}
use Rattle.bounds.proofs.exp.coarse.Goals as goal

pub returns : goal.returns
unfolding coarse
returns c = (refl, coarse-below _ c.requires)
