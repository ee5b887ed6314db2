-- The two tables of E at whole exponents: E is between them for every n from 40 upward. One computed test for each law.
-- Assumes nothing.
use mathlib.Core.Bool.{Bool}
use Prim.Native.Nat.{ℕ, suc, ◌+◌, ◌*◌, ◌^◌, ◌≤◌, ◌<◌}
use native.Mathlib.Omega.{arith}
use lib.Dec.{leb, leb→le}
use lib.ListN.{get_or}
use Rattle.numbers.specs.Fraction.{◌≤ᶠ◌, whole, one-pos}
use Rattle.numbers.proofs.Order.{≤_trans, ≈→≤, ≈→≥, whole_is}
use Rattle.bounds.specs.Series.{E, two_pos}
use Rattle.bounds.specs.WholeExponents.{far, far_above, far_units}
use Rattle.bounds.proofs.Tail.{below_test}
use Rattle.bounds.proofs.Table.{at}
use Rattle.bounds.proofs.Exponential.{E-mono, E-≤-ratio, ratio-≤-E}

-- the rule of the lower table
abbrev far_test : ℕ → ℕ → Bool
far_test c t = below_test 1 40 t 0 (2 ^ 30) c

-- far(c) ≤ 2³⁰·E(c)
pub far-below : (c : ℕ) → c < 15 → (n : ℕ) → 40 ≤ n → far_units (get_or far c 0) ≤ᶠ E n (whole c)
unfolding far below_test
far-below c h n n40 =
    ≤_trans (ratio-≤-E 40 c 1 (get_or far c 0) (2 ^ 30) one-pos (two_pos 30) (at far_test far tt c h) n n40)
    (E-mono n (≈→≥ (whole_is c one-pos)))

-- the rule of the upper table
abbrev far_above_test : ℕ → ℕ → Bool
far_above_test c t = below_test 1 40 (2 ^ 30) c t 0

-- 2³⁰·E(c) ≤ far_above(c)
pub far-above : (c : ℕ) → c < 15 → (n : ℕ) → 40 ≤ n → E n (whole c) ≤ᶠ far_units (get_or far_above c 0)
unfolding far_above below_test
far-above c h n n40 =
    ≤_trans (E-mono n (≈→≤ (whole_is c one-pos)))
    (E-≤-ratio 40 c 1 (get_or far_above c 0) (2 ^ 30) one-pos (two_pos 30) (omega arith) (at far_above_test far_above tt c h) n n40)

-- far_above(c) is at most 3.7·10⁻⁹ of far(c) above it
abbrev gap_test : ℕ → ℕ → Bool
gap_test c t = leb (10 ^ 12 * get_or far_above c 0) ((10 ^ 12 + 3700) * t)

-- so at each c
pub far-gap : (c : ℕ) → c < 15 → 10 ^ 12 * get_or far_above c 0 ≤ (10 ^ 12 + 3700) * get_or far c 0
unfolding far far_above
far-gap c h = leb→le _ _ (at gap_test far tt c h)

-- the next entry is at most three times as large
abbrev triple_test : ℕ → ℕ → Bool
triple_test c t = leb (get_or far (suc c) 0) (3 * t)

-- E(c + 1) ≤ 3·E(c), in the table
pub far-triple : (c : ℕ) → c < 14 → get_or far (suc c) 0 ≤ 3 * get_or far c 0
unfolding far
far-triple c h = leb→le _ _ (at triple_test far tt c (omega arith))

-- an entry is below 2⁵¹
abbrev size_test : ℕ → ℕ → Bool
size_test c t = leb (suc t) (2 ^ 51)

-- so at each c
pub far-size : (c : ℕ) → c < 15 → get_or far c 0 < 2 ^ 51
unfolding far
far-size c h = leb→le _ _ (at size_test far tt c h)

-- E(2) is at most 8, in the table
pub far-2 : get_or far 2 0 ≤ 8 * 2 ^ 30
unfolding far
far-2 = omega arith

-- E(14) is at least 1,200,000, in the table
pub far-14 : 12 * 10 ^ 5 * 2 ^ 30 ≤ get_or far 14 0
unfolding far
far-14 = omega arith
