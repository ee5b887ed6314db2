-- `bounds::whole::far` meets its contract: the table is the list.
use Rattle.std.proofs.Common.{refl}
use Rattle.bounds.specs.WholeExponents.{far}
use Rattle.bounds.proofs.WholeExponents.{far-size}
use Rattle.bounds.proofs.whole.far.Goals as goal

pub returns : goal.returns
unfolding far
returns c = (refl, far-size _ c.requires)
