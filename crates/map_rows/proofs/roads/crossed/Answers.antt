-- `map_rows::roads::crossed` meets its contract.
use native.Mathlib.Omega.{arith}
use native.Mathlib.Nat.{mul-le-mul}
use mathlib.Core.Path.{refl}
use Rattle.map_rows.proofs.roads.crossed.Goals as goal

pub overflow_mul-result : goal.overflow_mul-result
overflow_mul-result c = omega (arith, mul-le-mul c.requires.0 c.requires.1)

pub returns : goal.returns
returns c = (refl, mul-le-mul c.requires.0 c.requires.1)
