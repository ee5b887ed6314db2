-- The two tables of E at whole exponents are so near to each other that a step of `margin` less a unit passes from one to the other.
-- Assumes nothing.
use Prim.Native.Nat.{ℕ, ◌+◌, ◌*◌, ◌-◌, ◌^◌, ◌≤◌, ◌<◌}
use native.Mathlib.Omega.{arith}
use lib.ListN.{get_or}
use Rattle.bounds.specs.WholeExponents.{far, far_above}
use Rattle.bounds.proofs.Laws.{far-gap}
use Rattle.thresholds.specs.Thresholds.{near_error, margin}

-- 1 + e, for a step e of `margin` less a unit, in units of 10⁻¹⁴
abbrev pub grown : ℕ
grown = 10 ^ 14 + (margin - 1)

-- far_above(c) ≤ (1 + e)·far(c), less the error of E(d)
pub gap : (c : ℕ) → c < 15
    → 2 ^ 40 * 10 ^ 14 * get_or far_above c 0 + near_error * get_or far c 0 * grown ≤ 2 ^ 40 * grown * get_or far c 0
gap c h = omega (arith, far-gap c h)
