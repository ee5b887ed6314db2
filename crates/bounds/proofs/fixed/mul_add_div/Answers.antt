-- `bounds::fixed::mul_add_div` meets its contract: the product of the rest fits by what is required, and the whole is the quotient.
use Prim.Native.Nat.{◌+◌, ◌*◌, ◌/◌, ◌^◌, ◌<◌}
use native.Mathlib.Nat.{div-lt_iff_lt-mul}
use native.Mathlib.Omega.{arith}
use Rattle.bounds.proofs.Parts.{cut_sum}
use Rattle.bounds.proofs.fixed.mul_add_div.Goals as goal

pub returns : goal.returns
returns c = cut_sum c.args.k c.args.x c.args.c c.args.r c.requires.0

-- the quotient fits
fits : (c : goal.Start) → (c.args.x * c.args.c + c.args.r) / c.args.k < 2 ^ 64
fits c = (div-lt_iff_lt-mul c.requires.0).1 c.requires.2

pub overflow_mul-result : goal.overflow_mul-result
overflow_mul-result c = omega (arith, fits c, returns c)

pub overflow_add-result-2 : goal.overflow_add-result-2
overflow_add-result-2 c = omega (arith, fits c, returns c)
