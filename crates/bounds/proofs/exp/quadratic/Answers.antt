-- `bounds::exp::quadratic` meets its contract: p is below 2²⁸, so its square fits.
use mathlib.Core.Path.{refl}
use native.Mathlib.Omega.{arith}
use Rattle.bounds.specs.Exponential.{quadratic}
use Rattle.bounds.proofs.ExponentialBound.{rest-square, quadratic-least, quadratic-size}
use Rattle.bounds.proofs.exp.quadratic.Goals as goal

pub overflow_mul-result : goal.overflow_mul-result
overflow_mul-result c = omega (arith, rest-square _ c.rest-p.ensures.1)

pub overflow_add-result-2 : goal.overflow_add-result-2
overflow_add-result-2 c = omega (arith, rest-square _ c.rest-p.ensures.1)

pub returns : goal.returns
unfolding quadratic
returns c = rw c.rest-p.ensures.0 (refl, quadratic-least _, quadratic-size _ c.requires)
