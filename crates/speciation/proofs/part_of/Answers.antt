-- `speciation::part_of` meets its contract: with at most 10,001 parts each product fits, and both cuts are one.
-- Assumes nothing.
use mathlib.Core.Path.{◌≡◌, ap}
use Prim.Native.Nat.{ℕ, ◌+◌, ◌*◌, ◌/◌, ◌%◌, ◌≤◌}
use native.Mathlib.Nat.{mul-le-mul_left, div-add-mod'}
use native.Mathlib.Omega.{arith}
use Rattle.speciation.proofs.part_of.Goals as goal

high : (total c : ℕ) → c ≤ 10001 → total / 10001 * c ≤ total / 10001 * 10001
high total c h = mul-le-mul_left _ h

low : (total c : ℕ) → c ≤ 10001 → total % 10001 * c ≤ total % 10001 * 10001
low total c h = mul-le-mul_left _ h

-- the total in whole parts of 10,001 and what is left of it
parts : (total c : ℕ) → total / 10001 * 10001 * c + total % 10001 * c ≡ total * c
parts total c = omega (arith, ap (λ (n : ℕ). n * c) (div-add-mod' total 10001))

pub overflow_mul-result : goal.overflow_mul-result
overflow_mul-result c = omega (arith, high c.args.total c.args.c c.requires)

pub overflow_mul-result-2 : goal.overflow_mul-result-2
overflow_mul-result-2 c = omega (arith, low c.args.total c.args.c c.requires)

pub overflow_add-result : goal.overflow_add-result
overflow_add-result c = omega (arith, high c.args.total c.args.c c.requires, low c.args.total c.args.c c.requires)

pub returns : goal.returns
returns c = omega (arith, parts c.args.total c.args.c)
