-- `marking::power_of_ten` meets its contract: each of these powers fits.
-- Assumes nothing.
use native.Mathlib.Nat.{pow-le-pow_right}
use native.Mathlib.Omega.{arith}
use Rattle.marking.proofs.power_of_ten.Goals as goal

pub pow-requires : goal.pow-requires
pow-requires c = omega (arith, pow-le-pow_right {n = 10} (omega arith) c.requires)

pub returns : goal.returns
returns c = (c.pow.ensures, rw c.pow.ensures (pow-le-pow_right {n = 10} (omega arith) c.requires))
