-- A straight line of exponents, a + b·m: how it grows with m, and how its values are compared. Nothing here speaks of E.
-- a is given by A, an exponent; 2·b by K, in units of 10⁻¹⁴.
-- Assumes nothing.
use Prim.Native.Nat.{ℕ, ◌+◌, ◌*◌, ◌^◌, ◌≤◌, ◌<◌}
use native.Mathlib.Omega.{arith}
use Rattle.numbers.specs.Fraction.{Fraction, ◌≤ᶠ◌, ◌≈ᶠ◌, ◌+ᶠ◌, ◌-ᶠ◌, ◌*ᶠ◌, whole, ◌/10^◌}
use Rattle.numbers.proofs.Order.{≤-refl, ≤_trans, ≈-refl, ≈-sym, ≈-trans, ≈-by, +-mono, +-cong, +_assoc, regain}
use Rattle.numbers.proofs.Order.{*-mono-right, *-cong, *-assoc, *-distrib, ratio, ratio-mono, ratio-NonNegative}
use Rattle.bounds.specs.Enclosure.{Within}
use Rattle.bounds.specs.Exponential.{exponent}
use Rattle.bounds.proofs.Within.{within-above, within-below, within-from}

pub double-unit-pos : 0 < 2 * 10 ^ 14
double-unit-pos = omega arith

-- b
abbrev pub rising : ℕ → Fraction
rising K = ratio K (2 * 10 ^ 14) double-unit-pos

-- a + b·m
unfoldable pub along : ℕ → ℕ → Fraction → Fraction
along A K m = exponent A +ᶠ rising K *ᶠ m

-- a value between two enclosed ones
pub within-between : {s l w m v u : ℕ} {x y z : Fraction} (p : 0 < s) → Within s l w x → Within s m v z → x ≤ᶠ y → y ≤ᶠ z → m + v ≤ l + u
    → Within s l u y
within-between {s} p a b h k g =
    within-from p (≤_trans (within-above p a) h) (≤_trans k (≤_trans (within-below p b) (ratio-mono p g)))

-- a and b, as they are held
pub along-is : (A K : ℕ) (m : Fraction) {a b : Fraction} → a ≈ᶠ exponent A → b ≈ᶠ rising K → a +ᶠ b *ᶠ m ≈ᶠ along A K m
unfolding along
along-is A K m ea eb = +-cong ea (*-cong eb (≈-refl m))

-- b·(m + g·r) = b·m + (b·g)·r
pub along-risen : (A K : ℕ) (m g r : Fraction) → along A K m +ᶠ rising K *ᶠ g *ᶠ r ≈ᶠ along A K (m +ᶠ g *ᶠ r)
unfolding along
along-risen A K m g r =
    ≈-trans (+_assoc (exponent A) (rising K *ᶠ m) (rising K *ᶠ g *ᶠ r))
    (+-cong (≈-refl (exponent A))
    (≈-trans (+-cong (≈-refl (rising K *ᶠ m)) (*-assoc (rising K) g r)) (≈-sym (*-distrib (rising K) m (g *ᶠ r)))))

-- at a decimal number of tenths it is compared in whole numbers
pub along-≤ : (limit A K m : ℕ) → 20 * A + K * m ≤ (320 + 20 * limit) * 10 ^ 14 → along A K (m /10^ 1) ≤ᶠ whole limit
unfolding along ratio whole ◌/10^◌ ◌+ᶠ◌ ◌*ᶠ◌
along-≤ limit A K m h = omega arith

-- it grows with m
pub along-mono : (A K : ℕ) {m m' : Fraction} → m ≤ᶠ m' → along A K m ≤ᶠ along A K m'
unfolding along
along-mono A K h = +-mono (≤-refl (exponent A)) (*-mono-right (ratio-NonNegative K double-unit-pos) h)

-- by b for each unit of m
pub along-split : (A K : ℕ) (m m' : Fraction) → along A K m' ≈ᶠ along A K m +ᶠ rising K *ᶠ (m' -ᶠ m)
unfolding along
along-split A K m m' =
    ≈-by (+-cong (≈-refl (exponent A)) (*-cong (≈-refl (rising K)) (≈-sym (regain m' m))))
    (+_assoc (exponent A) (rising K *ᶠ m) (rising K *ᶠ (m' -ᶠ m)))
    (+-cong (≈-refl (exponent A)) (*-distrib (rising K) m (m' -ᶠ m)))

-- a + b·(m + x) = (a + b·m) + b·x
pub along-plus : (A K : ℕ) (m x : Fraction) → along A K (m +ᶠ x) ≈ᶠ along A K m +ᶠ rising K *ᶠ x
unfolding along
along-plus A K m x = ≈-trans (+-cong (≈-refl _) (*-distrib (rising K) m x)) (≈-sym (+_assoc _ _ _))
