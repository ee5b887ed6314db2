-- `bounds::hours::apart` meets its contract.
use native.Mathlib.Omega.{arith}
use Rattle.bounds.specs.Weights.{apart}
use Rattle.bounds.proofs.hours.apart.Goals as goal

pub returns : goal.returns
unfolding apart
returns c = (omega (arith, c.one_way-way.ensures.0), omega arith)
