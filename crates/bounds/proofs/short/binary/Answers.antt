-- `bounds::short::binary` meets its contract: the quotient is below 2⁴⁸.
use native.Mathlib.Omega.{arith}
use Rattle.bounds.specs.Short.{binary}
use Rattle.bounds.proofs.short.binary.Goals as goal

pub returns : goal.returns
unfolding binary
returns c = (omega (arith, c.mul_add_div.ensures), omega (arith, c.mul_add_div.ensures))
