-- `report_words::words::milligrams` meets its contract: the product over 10⁹ fits.
-- Assumes nothing.
use Prim.Native.Nat.{◌^◌, ◌≤◌}
use native.Mathlib.Nat.{mul-le-mul}
use native.Mathlib.Omega.{arith}
use Rattle.report_words.proofs.words.milligrams.Goals as goal

pub mul_add_div-requires : goal.mul_add_div-requires
mul_add_div-requires c =
    let y : c.args.year ≤ 2 ^ 64 = omega arith in
    let v : c.args.vehicles ≤ 10 ^ 7 = omega arith in
    omega (arith, mul-le-mul y v)
