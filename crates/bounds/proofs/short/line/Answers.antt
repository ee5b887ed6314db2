-- `bounds::short::line` meets its contract: the product fits.
use Prim.Native.Nat.{ℕ, ◌*◌, ◌^◌, ◌<◌, ◌≤◌}
use native.Mathlib.Nat.{mul-le-mul, le_of_lt}
use native.Mathlib.Omega.{arith}
use Rattle.bounds.proofs.short.line.Goals as goal

size : {k m : ℕ} → k < 2 ^ 44 → m < 2 ^ 49 → k * m ≤ 2 ^ 44 * 2 ^ 49
size hk hm = mul-le-mul (le_of_lt hk) (le_of_lt hm)

pub overflow_mul-result : goal.overflow_mul-result
overflow_mul-result c = omega (arith, size c.requires.1 c.requires.2, c.mul_shift.ensures.0)

pub returns : goal.returns
returns c = (omega (arith, c.mul_shift.ensures.0), omega (arith, size c.requires.1 c.requires.2, c.mul_shift.ensures.0))
