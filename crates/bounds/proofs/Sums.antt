-- E of a sum of exponents, between products of E; the inverse at the opposite exponent; and 1 + e.
use mathlib.Core.Bool.{Bool, true, false}
use mathlib.Core.Path.{◌≡◌, ap}
use Prim.Native.Nat.{ℕ, ◌+◌, ◌<◌}
use native.Mathlib.Omega.{arith}
use Rattle.numbers.specs.Fraction.{Fraction, ◌≤ᶠ◌, ◌≈ᶠ◌, ◌+ᶠ◌, negᶠ, ◌*ᶠ◌, whole, ◌^ᶠ◌, ◌over◌, inverse}
use Rattle.bounds.specs.Series.{factorial, term, S, E}
use Rattle.numbers.proofs.Order.{NonNegative, positive→NonNegative, NonNegative→≤, test-true, ≤_trans, ≤-by, ≈-sym}
use Rattle.numbers.proofs.Order.{≈-trans, ≈→≤, +-NonNegative, *-mono-left, *-cong, *-comm, *-cancel, ratio}
use Rattle.numbers.proofs.Order.{ratio-positive}
use Rattle.bounds.proofs.Exponential.{S-product-above, S-product-below, E-is, E-mono, E-positive, E-zero}

-- Eₙ(y) = Sₙ(y) for 0 ≤ y
E-plus : (n : ℕ) {y : Fraction} → NonNegative y → E n y ≡ S n y
unfolding E
E-plus n {y} h = ap (λ (c : Bool). elim c [ true ↦ S n y | false ↦ inverse (S n (negᶠ y)) ]) (test-true (NonNegative→≤ h))

-- Eₙ(x + y) ≤ Eₙ(x)·Eₙ(y) for 0 ≤ x, y
pub E-product-above : (n : ℕ) {x y : Fraction} → NonNegative x → NonNegative y → E n (x +ᶠ y) ≤ᶠ E n x *ᶠ E n y
E-product-above n {x} {y} h k = rw (E-plus n h, E-plus n k, E-plus n (+-NonNegative h k)) (S-product-above x y n h k)

-- Eₙ(x)·Eₘ(y) ≤ Eₙ₊ₘ(x + y) for 0 ≤ x, y
pub E-product-below : (n m : ℕ) {x y : Fraction} → NonNegative x → NonNegative y → E n x *ᶠ E m y ≤ᶠ E (n + m) (x +ᶠ y)
E-product-below n m {x} {y} h k =
    rw (E-plus n h, E-plus m k, E-plus (n + m) (+-NonNegative h k)) (S-product-below x y n m h k)

-- (a/b)·(b/a) = 1
ratio-swap : (a b : ℕ) (p : 0 < a) (q : 0 < b) → ratio a b q *ᶠ ratio b a p ≈ᶠ whole 1
unfolding ratio ◌*ᶠ◌ whole
ratio-swap a b p q = omega arith

-- Eₙ(y)·Eₙ(−y) = 1
E-neg : (n : ℕ) (y : Fraction) → E n y *ᶠ E n (negᶠ y) ≈ᶠ whole 1
unfolding negᶠ
E-neg n y = ≈-trans (*-cong (E-is n y) (E-is n (negᶠ y))) (ratio-swap _ _ _ _)

-- a/b ≤ Eₙ(y) gives Eₙ(−y) ≤ b/a
pub E-neg-most : (n a b : ℕ) (y : Fraction) (p : 0 < a) (q : 0 < b) → ratio a b q ≤ᶠ E n y → E n (negᶠ y) ≤ᶠ ratio b a p
E-neg-most n a b y p q h =
    *-cancel (ratio-positive q p)
    (≤-by (*-comm (E n (negᶠ y)) _) (≈-trans (ratio-swap b a q p) (≈-sym (E-neg n y)))
    (*-mono-left (positive→NonNegative (E-positive n (negᶠ y))) h))

-- Eₙ(z) ≤ 1 for z ≤ 0
pub E-most-1 : {z : Fraction} (n : ℕ) → z ≤ᶠ whole 0 → E n z ≤ᶠ whole 1
E-most-1 n h = ≤_trans (E-mono n h) (≈→≤ (E-zero n))

-- 1 + e ≤ S₁(e)
two-terms : (e : Fraction) → whole 1 +ᶠ e ≤ᶠ S 1 e
unfolding S term factorial ◌^ᶠ◌ ◌over◌ ◌+ᶠ◌ ◌*ᶠ◌ whole
two-terms e = record { cross = omega arith }

-- 1 + e ≤ E₁(e) for 0 ≤ e
pub one-plus : (e : Fraction) → NonNegative e → whole 1 +ᶠ e ≤ᶠ E 1 e
one-plus e h = rw (E-plus 1 h) (two-terms e)
