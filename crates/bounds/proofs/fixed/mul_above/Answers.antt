-- `bounds::fixed::mul_above` meets its contract: the products of a's parts fit, and with a they are the product.
use Prim.Native.Nat.{ℕ, ◌-◌, ◌*◌, ◌/◌, ◌%◌, ◌^◌, ◌<◌, ◌≤◌}
use native.Mathlib.Nat.{mul-le-mul}
use native.Mathlib.Omega.{arith}
use Rattle.bounds.proofs.Parts.{cut-above}
use Rattle.bounds.proofs.fixed.mul_above.Goals as goal

-- the products of the parts, with what b has above 1
record Small (a b : ℕ) : Type 0 where
  pub high : a / 2 ^ 20 * (b - 2 ^ 40) ≤ 2 ^ 26 * (12 * 10 ^ 11 - 2 ^ 40)
  pub low : a % 2 ^ 20 * (b - 2 ^ 40) ≤ 2 ^ 20 * (12 * 10 ^ 11 - 2 ^ 40)

small : {a b : ℕ} → a < 2 ^ 46 → b < 12 * 10 ^ 11 → Small a b
small {a} {b} ha hb =
    let a₁ : a / 2 ^ 20 ≤ 2 ^ 26 = omega arith in
    let a₀ : a % 2 ^ 20 ≤ 2 ^ 20 = omega arith in
    let f : b - 2 ^ 40 ≤ 12 * 10 ^ 11 - 2 ^ 40 = omega arith in
    record { high = mul-le-mul a₁ f; low = mul-le-mul a₀ f }

known : (c : goal.Start) → Small c.args.a c.args.b
known c = small c.requires.0 c.requires.2

pub overflow_sub-f : goal.overflow_sub-f
overflow_sub-f c = omega (arith, known c)

pub overflow_mul-result : goal.overflow_mul-result
overflow_mul-result c = omega (arith, known c)

pub overflow_mul-result-2 : goal.overflow_mul-result-2
overflow_mul-result-2 c = omega (arith, known c)

pub overflow_add-result : goal.overflow_add-result
overflow_add-result c = omega (arith, known c)

pub overflow_add-result-2 : goal.overflow_add-result-2
overflow_add-result-2 c = omega (arith, known c)

pub returns : goal.returns
returns c = cut-above (2 ^ 20) c.args.a c.args.b (omega arith) c.requires.1
