-- `bounds::hours::one_way` meets its contract.
use native.Mathlib.Omega.{arith}
use Rattle.bounds.specs.Weights.{one_way}
use Rattle.bounds.proofs.hours.one_way.Goals as goal

pub returns : goal.returns
unfolding one_way
returns c = (omega arith, omega arith)
