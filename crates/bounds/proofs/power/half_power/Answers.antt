-- `bounds::power::half_power` meets its contract: n² is below 2⁷⁹ and the root below 2³², so the last product, cut, is below 2³¹.
use Prim.Native.Nat.{ℕ, ◌*◌, ◌-◌, ◌/◌, ◌^◌, ◌≤◌}
use native.Mathlib.Nat.{mul-le-mul}
use native.Mathlib.Omega.{arith}
use lib.Dec.{lit<}
use Rattle.bounds.specs.Power.{half_power}
use Rattle.bounds.proofs.Parts.{cut_below}
use Rattle.bounds.proofs.power.half_power.Goals as goal

-- the square, cut
square-small : {n : ℕ} → n ≤ 65 * 10 ^ 10 → n * n / 2 ^ 40 ≤ 2 ^ 39
square-small h = omega (arith, mul-le-mul h h)

pub mul_shift-requires-2 : goal.mul_shift-requires-2
mul_shift-requires-2 c = omega (arith, square-small c.requires)

pub returns : goal.returns
unfolding half_power
returns c =
    let p : c.mul_shift.result ≤ 2 ^ 39 = omega (arith, square-small c.requires) in
    let q : c.square_root.result ≤ 2 ^ 32 - 1 = omega arith in
    (cc, rw c.mul_shift-2.ensures.0 (cut_below (2 ^ 40) (omega arith) p q (lit< tt)))
