-- `bounds::fixed::mul_shift` meets its contract: the products of the parts fit, and together they are the product.
use Prim.Native.Nat.{ℕ, ◌-◌, ◌*◌, ◌/◌, ◌%◌, ◌^◌, ◌<◌, ◌≤◌}
use native.Mathlib.Nat.{mul-le-mul}
use native.Mathlib.Omega.{arith}
use Rattle.bounds.proofs.Parts.{cut_twice}
use Rattle.bounds.proofs.fixed.mul_shift.Goals as goal

-- the products of the parts: a high part has 30 bits, a low one 20
record Small (a b : ℕ) : Type 0 where
  pub highs : a / 2 ^ 20 * (b / 2 ^ 20) ≤ (2 ^ 30 - 1) * (2 ^ 30 - 1)
  pub cross : a / 2 ^ 20 * (b % 2 ^ 20) ≤ (2 ^ 30 - 1) * (2 ^ 20 - 1)
  pub other : a % 2 ^ 20 * (b / 2 ^ 20) ≤ (2 ^ 20 - 1) * (2 ^ 30 - 1)
  pub lows : a % 2 ^ 20 * (b % 2 ^ 20) ≤ (2 ^ 20 - 1) * (2 ^ 20 - 1)

small : {a b : ℕ} → a < 2 ^ 50 → b < 2 ^ 50 → Small a b
small {a} {b} ha hb =
    let a₁ : a / 2 ^ 20 ≤ 2 ^ 30 - 1 = omega arith in
    let b₁ : b / 2 ^ 20 ≤ 2 ^ 30 - 1 = omega arith in
    let a₀ : a % 2 ^ 20 ≤ 2 ^ 20 - 1 = omega arith in
    let b₀ : b % 2 ^ 20 ≤ 2 ^ 20 - 1 = omega arith in
    record { highs = mul-le-mul a₁ b₁; cross = mul-le-mul a₁ b₀; other = mul-le-mul a₀ b₁; lows = mul-le-mul a₀ b₀ }

known : (c : goal.Start) → Small c.args.a c.args.b
known c = small c.requires.0 c.requires.1

pub overflow_mul-result : goal.overflow_mul-result
overflow_mul-result c = omega (arith, known c)

pub overflow_mul-result-2 : goal.overflow_mul-result-2
overflow_mul-result-2 c = omega (arith, known c)

pub overflow_mul-result-3 : goal.overflow_mul-result-3
overflow_mul-result-3 c = omega (arith, known c)

pub overflow_add-result : goal.overflow_add-result
overflow_add-result c = omega (arith, known c)

pub overflow_mul-result-4 : goal.overflow_mul-result-4
overflow_mul-result-4 c = omega (arith, known c)

pub overflow_add-result-2 : goal.overflow_add-result-2
overflow_add-result-2 c = omega (arith, known c)

pub overflow_add-result-3 : goal.overflow_add-result-3
overflow_add-result-3 c = omega (arith, known c)

pub returns : goal.returns
returns c = (cut_twice (2 ^ 20) c.args.a c.args.b (omega arith), omega (arith, known c))
