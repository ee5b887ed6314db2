-- `marks::pressure_factor` meets its contract: the exponent is that of the definition.
use Rattle.marks.specs.Marks.{pressure_factor}
use Rattle.marks.proofs.pressure_factor.Goals as goal

pub returns : goal.returns
unfolding pressure_factor
returns c = (c.exponential.ensures.0, c.exponential.ensures.1)
