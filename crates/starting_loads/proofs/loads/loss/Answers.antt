-- `starting_loads::loads::loss` meets its contract: the product fits.
use mathlib.Core.Path.{◌∙◌, ap}
use Prim.Native.Nat.{ℕ, ◌*◌, ◌/◌, ◌^◌}
use native.Mathlib.Omega.{arith}
use native.Mathlib.Nat.{mul-le-mul}
use Rattle.bounds.specs.Theta.{theta}
use Rattle.starting_loads.specs.Loss.{loss}
use Rattle.starting_loads.proofs.loads.loss.Goals as goal

pub returns : goal.returns
unfolding loss
returns c = (
  ap (λ (x : ℕ). c.args.y * x / 2 ^ 23) (c.theta.ensures.0 ∙ ap theta c.feedback.ensures.0),
  omega (arith, mul-le-mul c.requires.1 c.theta.ensures.1),
)
