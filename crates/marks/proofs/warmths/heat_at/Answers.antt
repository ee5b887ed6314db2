-- `marks::warmths::heat_at` meets its contract: the exponent is that of the definition.
use Rattle.marks.specs.Marks.{heat}
use Rattle.marks.proofs.Heat.{raised-most}
use Rattle.marks.proofs.warmths.heat_at.Goals as goal

pub returns : goal.returns
unfolding heat
returns c = (c.exponential.ensures.0, rw c.exponential.ensures.0 (raised-most c.args.warmth c.requires))
