-- What the test `within` says of E at c − d, for every n from 40 upward: where it passes, E is at least M there; where it fails, E is below M
-- at an exponent that is lower by `margin` less a unit. Downwards from c nothing is lost: E(c) ≤ E(c − d)·E(d), and with 41 terms more
-- E(c − d)·E(d) ≤ E(c).
-- Assumes nothing.
use mathlib.Core.Path.{◌≡◌, ap}
use Prim.Native.Nat.{ℕ, ◌+◌, ◌*◌, ◌-◌, ◌^◌, ◌≤◌, ◌<◌}
use native.Mathlib.Omega.{arith}
use native.Mathlib.Nat.{mul-le-mul_right}
use lib.ListN.{get_or}
use Rattle.numbers.specs.Fraction.{Fraction, ◌≤ᶠ◌, ◌≈ᶠ◌, ◌+ᶠ◌, ◌*ᶠ◌, whole, ten-pos}
use Rattle.bounds.specs.Series.{E}
use Rattle.bounds.specs.Enclosure.{Within}
use Rattle.bounds.specs.Exponential.{exponential, exponent}
use Rattle.numbers.proofs.Order.{NonNegative, positive→NonNegative, whole-NonNegative, ≤_trans, ≈→≤, ≈→≥, +-NonNegative}
use Rattle.numbers.proofs.Order.{*-mono, *-mono-right, *-NonNegative, *-cancel, ratio, ratio-NonNegative, ratio-sum}
use Rattle.bounds.proofs.Laws.{E-cong, E-mono, E-positive, E-product-above, E-product-below, one-plus}
use Rattle.bounds.proofs.Laws.{exponential-within, exponential_error-1_41, far-below, far-above}
use Rattle.bounds.proofs.Within.{widen, within-≈, within-above, within-below}
use Rattle.bounds.proofs.Units.{unit-pos, units}
use Rattle.bounds.specs.WholeExponents.{far, far_above, far_units}
use Rattle.thresholds.specs.Thresholds.{near_error, margin}
use Rattle.thresholds.proofs.Far.{grown, gap}

-- k·10⁻¹⁴
abbrev pub exponents : ℕ → Fraction
exponents k = ratio k (10 ^ 14) (ten-pos 14)

-- 0 ≤ k·10⁻¹⁴
exponents-NonNegative : (k : ℕ) → NonNegative (exponents k)
exponents-NonNegative k = ratio-NonNegative k (ten-pos 14)

-- the sum of two
exponents-add : (j k : ℕ) → exponents j +ᶠ exponents k ≈ᶠ exponents (j + k)
exponents-add j k = ratio-sum j k (10 ^ 14) (ten-pos 14)

-- two with a whole sum
exponents-whole : (y d c : ℕ) → y + d ≡ c * 10 ^ 14 → exponents y +ᶠ exponents d ≈ᶠ whole c
unfolding ratio whole ◌+ᶠ◌
exponents-whole y d c e = record { cross = omega (arith, ap (λ (t : ℕ). t * 10 ^ 14) e) }

-- an exponent as `exponential` takes it
held-is : (d : ℕ) → exponent (16 * 10 ^ 14 + d) ≈ᶠ exponents d
unfolding ratio
held-is d = omega arith

-- E(d) for d up to 2⁴⁷
near_within : (d : ℕ) → d ≤ 2 ^ 47 → (n : ℕ) → 40 ≤ n → Within (2 ^ 40) (exponential (16 * 10 ^ 14 + d)) near_error (E n (exponents d))
near_within d h n n40 =
    let x : ℕ = 16 * 10 ^ 14 + d in
    within-≈ (E-cong n (held-is d))
    (widen ((exponential-within x (omega arith)).at n n40) (omega (arith, exponential_error-1_41 x (omega arith))))

-- M·(x/2⁴⁰) ≤ t/2³⁰ from whole numbers
product-≤ : (M x t : ℕ) → M * x ≤ t * 2 ^ 10 → whole M *ᶠ units x ≤ᶠ far_units t
unfolding whole ratio ◌*ᶠ◌
product-≤ M x t h = omega (arith, h)

-- M·E(d) ≤ E(c) gives M ≤ E(c − d)
pub reached : (M c d y : ℕ) → c < 15 → d ≤ 2 ^ 47 → y + d ≡ c * 10 ^ 14
    → M * (exponential (16 * 10 ^ 14 + d) + near_error) ≤ get_or far c 0 * 2 ^ 10 → (n : ℕ) → 40 ≤ n → whole M ≤ᶠ E n (exponents y)
reached M c d y c15 d47 e h n n40 =
    *-cancel (E-positive n (exponents d))
    (≤_trans (*-mono-right (whole-NonNegative M) (within-below unit-pos (near_within d d47 n n40)))
    (≤_trans (product-≤ M _ (get_or far c 0) h)
    (≤_trans (far-below c c15 n n40)
    (≤_trans (E-mono n (≈→≥ (exponents-whole y d c e))) (E-product-above n (exponents-NonNegative y) (exponents-NonNegative d))))))

-- M·(x/2⁴⁰)·(1 + e) ≤ t/2³⁰ in whole numbers
whole-product : (M x t : ℕ) → whole M *ᶠ (units x *ᶠ (whole 1 +ᶠ exponents (margin - 1))) ≤ᶠ far_units t
    → M * x * grown ≤ t * (2 ^ 10 * 10 ^ 14)
unfolding whole ratio ◌+ᶠ◌ ◌*ᶠ◌
whole-product M x t h = omega (arith, h.cross)

-- F < M·X and M·x·(1 + e) ≤ H do not go together where F and H are near, for X = x + w; u is 1 and v is 1 + e, in one unit
too_much : (u v w M x F H : ℕ) → 0 < v → M * x * v ≤ H * (2 ^ 10 * u) → F * 2 ^ 10 < M * (x + w) → M * 2 ^ 30 ≤ F
    → 2 ^ 40 * u * H + w * F * v ≤ 2 ^ 40 * v * F → ⊥
too_much u v w M x F H v0 a b c d = omega (arith, a, mul-le-mul_right v b, mul-le-mul_right (w * v) c, d)

-- E(c) < M·E(d) gives E(c − d − e) < M
pub beyond : (M c d y : ℕ) → c < 15 → d ≤ 2 ^ 47 → y + (d + (margin - 1)) ≡ c * 10 ^ 14 → M * 2 ^ 30 ≤ get_or far c 0
    → get_or far c 0 * 2 ^ 10 < M * (exponential (16 * 10 ^ 14 + d) + near_error) → (n : ℕ) → 40 ≤ n → ¬ (whole M ≤ᶠ E n (exponents y))
beyond M c d y c15 d47 s m h n n40 k =
    let e : ℕ = margin - 1 in
    let x : ℕ = exponential (16 * 10 ^ 14 + d) in
    let step : NonNegative (whole 1 +ᶠ exponents e) = +-NonNegative (whole-NonNegative 1) (exponents-NonNegative e) in
    let below : units x *ᶠ (whole 1 +ᶠ exponents e) ≤ᶠ E 41 (exponents (d + e)) =
    ≤_trans
    (*-mono (positive→NonNegative (E-positive 40 (exponents d))) step
    (within-above unit-pos (near_within d d47 40 (omega arith))) (one-plus (exponents e) (exponents-NonNegative e)))
    (≤_trans (E-product-below 40 1 (exponents-NonNegative d) (exponents-NonNegative e)) (E-mono 41 (≈→≤ (exponents-add d e)))) in
    too_much (10 ^ 14) grown near_error M x (get_or far c 0) (get_or far_above c 0) (omega arith)
    (whole-product M x (get_or far_above c 0)
    (≤_trans
    (*-mono (positive→NonNegative (E-positive n (exponents y))) (*-NonNegative (ratio-NonNegative x unit-pos) step) k below)
    (≤_trans (E-product-below n 41 (exponents-NonNegative y) (exponents-NonNegative (d + e)))
    (≤_trans (E-mono (n + 41) (≈→≤ (exponents-whole y (d + e) c s))) (far-above c c15 (n + 41) (omega arith))))))
    h m (gap c c15)
