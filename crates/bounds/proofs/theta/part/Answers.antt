-- `bounds::theta::part` meets its contract: the product fits.
use native.Mathlib.Omega.{arith}
use native.Mathlib.Nat.{mul-le-mul, mul-le-mul_left}
use Prim.Native.Nat.{◌^◌, ◌≤◌}
use borrow.Author.Rules.{rules}
use Rattle.bounds.proofs.theta.part.Goals as goal

pub overflow_mul-result : goal.overflow_mul-result
overflow_mul-result c =
    let h : c.args.rest ≤ 2 ^ 29 = omega (arith, c.requires.1) in
    record { fits = omega (arith, mul-le-mul c.requires.0 h) }

pub returns : goal.returns
returns c =
    let h : c.args.rest ≤ 2 ^ 29 = omega (arith, c.requires.1) in
    (search rules, omega (arith, mul-le-mul_left c.args.x h))
