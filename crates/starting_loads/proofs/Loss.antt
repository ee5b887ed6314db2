-- The computed loss y·Θ(b·s·y) is at most the exact loss at the starting load, and near it.
-- Assumes nothing.
use Prim.Native.Nat.{ℕ, ◌+◌, ◌*◌, ◌/◌, ◌^◌, ◌≤◌, ◌<◌}
use native.Mathlib.Omega.{arith}
use native.Mathlib.Nat.{mul-le-mul_right, mul-le-mul, div-mul-le_self}
use lib.Dec.{lit≤}
use Rattle.numbers.specs.Fraction.{Fraction, ◌≤ᶠ◌, ◌+ᶠ◌, ◌*ᶠ◌, whole, ◌/10^◌}
use Rattle.numbers.proofs.Order.{NonNegative, positive→NonNegative, ≤-refl, ≤_trans, ≈-refl, ≈-trans, ≈→≤, ≈→≥, +-mono}
use Rattle.numbers.proofs.Order.{+-cong, +-NonNegative, *-mono, *-mono-left, *-mono-right, *-assoc, *-distrib, +-times}
use Rattle.numbers.proofs.Order.{*-NonNegative, ratio, ratio-≤, ratio-NonNegative, ratio-product}
use Rattle.bounds.specs.Series.{E}
use Rattle.bounds.specs.Enclosure.{Within}
use Rattle.bounds.specs.Short.{binary}
use Rattle.bounds.specs.Theta.{theta, theta_exact}
use Rattle.bounds.proofs.Laws.{E-mono, E-positive, E-to-0_44, climb-to, product-least, product-most, theta-least}
use Rattle.bounds.proofs.Laws.{theta-near, theta-most, theta-rounded}
use Rattle.bounds.proofs.Within.{within-above, within-below, within-NonNegative}
use Rattle.bounds.proofs.Units.{unit-pos, units, units-≤, units-sum, units-fold}
use Rattle.bounds.proofs.Line.{double-unit-pos, rising}
use Rattle.bounds.proofs.ShortLine.{rising-cut, binary-most}
use Rattle.starting_loads.specs.Loss.{feedback, loss}

-- What rounding costs, over bare numbers.

b-pos : 0 < 2 ^ 45
b-pos = omega arith

two-31 : 0 < 2 ^ 31
two-31 = omega arith

-- the feedback is at most a quarter
pub feedback-most : (k y : ℕ) → k ≤ 2 ^ 43 → y ≤ 2 ^ 32 → feedback k y ≤ 2 ^ 38
unfolding feedback
feedback-most k y h g =
    let p : k / 2 ^ 12 ≤ 2 ^ 31 = omega arith in
    omega (arith, mul-le-mul p g)

feedback-low : (k y : ℕ) → feedback k y * 2 ^ 37 ≤ k * y
unfolding feedback
feedback-low k y = rounded (k / 2 ^ 12) (k / 2 ^ 12 * y / 2 ^ 25) (omega arith) (omega arith)
  where
    rounded : (p t : ℕ) → p * 2 ^ 12 ≤ k → t * 2 ^ 25 ≤ p * y → t * 2 ^ 37 ≤ k * y
    rounded p t h g = omega (arith, g, mul-le-mul_right y h)

feedback-high : (k y : ℕ) → y ≤ 2 ^ 32 → (k + 1) * y ≤ (feedback k y + 129) * 2 ^ 37
unfolding feedback
feedback-high k y l = rounded (k / 2 ^ 12) (k / 2 ^ 12 * y / 2 ^ 25) (omega arith) (omega arith)
  where
    rounded : (p t : ℕ) → k + 1 ≤ (p + 1) * 2 ^ 12 → p * y ≤ (t + 1) * 2 ^ 25 → (k + 1) * y ≤ (t + 129) * 2 ^ 37
    rounded p t h g = omega (arith, g, l, mul-le-mul_right y h)

-- y in units of 2⁻⁴⁰
abbrev pub first : ℕ → Fraction
first y = units (y * 2 ^ 8)

-- t ≤ b·s·y
feedback-least : (K y : ℕ) → units (feedback (binary K) y) ≤ᶠ rising K *ᶠ first y
feedback-least K y =
    ≤_trans
    (≤_trans (ratio-≤ _ _ unit-pos _ (shape (feedback (binary K) y) (binary K) (feedback-low (binary K) y)))
    (≈→≥ (ratio-product (binary K) (y * 2 ^ 8) b-pos unit-pos)))
    (*-mono-left (ratio-NonNegative _ unit-pos) (within-above b-pos (rising-cut K)))
  where
    shape : (t k : ℕ) → t * 2 ^ 37 ≤ k * y → t * (2 ^ 45 * 2 ^ 40) ≤ k * (y * 2 ^ 8) * 2 ^ 40
    shape t k h = omega (arith, h)

feedback-near : (K y : ℕ) → y ≤ 2 ^ 32 → rising K *ᶠ first y ≤ᶠ units (feedback (binary K) y + 129)
feedback-near K y l =
    ≤_trans (*-mono-left (ratio-NonNegative _ unit-pos) (within-below b-pos (rising-cut K)))
    (≤_trans (≈→≤ (ratio-product (binary K + 1) (y * 2 ^ 8) b-pos unit-pos))
    (ratio-≤ _ _ _ unit-pos (shape (feedback (binary K) y + 129) (binary K + 1) (feedback-high (binary K) y l))))
  where
    shape : (t k : ℕ) → k * y ≤ t * 2 ^ 37 → k * (y * 2 ^ 8) * 2 ^ 40 ≤ t * (2 ^ 45 * 2 ^ 40)
    shape t k h = omega (arith, h)

pub four-pos : 0 < 4
four-pos = omega arith

-- b·s is at most a quarter
pub quarter : (K : ℕ) → K ≤ 22 * 2 ^ 41 → rising K ≤ᶠ ratio 1 4 four-pos
quarter K h = ratio-≤ K 1 double-unit-pos four-pos (omega arith)

-- Closed comparisons.

closed : ratio 1 4 four-pos *ᶠ (units (2 ^ 40) *ᶠ 14375 /10^ 4) ≤ᶠ 44 /10^ 2
unfolding ratio ◌*ᶠ◌ ◌/10^◌
closed = record { cross = omega arith }

feedback-part : units 129 *ᶠ 14375 /10^ 4 ≤ᶠ units 186
unfolding ratio ◌*ᶠ◌ ◌/10^◌
feedback-part = record { cross = omega arith }

steep-part : units 186 *ᶠ 156 /10^ 2 ≤ᶠ units 291
unfolding ratio ◌*ᶠ◌ ◌/10^◌
steep-part = record { cross = omega arith }

closed-part : units 17008 *ᶠ (14375 /10^ 4 +ᶠ units 8483) ≤ᶠ units 24450
unfolding ratio ◌*ᶠ◌ ◌+ᶠ◌ ◌/10^◌
closed-part = record { cross = lit≤ tt }

-- 8483 units of y
first_part : (y : ℕ) → y ≤ 2 ^ 32 → first y *ᶠ units 8483 ≤ᶠ units 8484
first_part y h =
    ≤_trans (*-mono-left (ratio-NonNegative 8483 unit-pos) (units-≤ {k = 2 ^ 40} (omega arith)))
    (≤_trans (≈→≤ (ratio-product (2 ^ 40) 8483 unit-pos unit-pos)) (ratio-≤ _ _ _ unit-pos (omega arith)))

-- rounding `loss` down, over bare numbers: c = y·θ/2²³
round-below : (c y θ : ℕ) → c * 2 ^ 23 ≤ y * θ → c * (2 ^ 40 * 2 ^ 31) ≤ y * 2 ^ 8 * θ * 2 ^ 40
round-below c y θ h = omega (arith, h)

round-above : (c y θ : ℕ) → y ≤ 2 ^ 32 → y * θ ≤ (c + 1) * 2 ^ 23 → y * 2 ^ 8 * (θ + 2) * 2 ^ 40 ≤ (c + 1025) * (2 ^ 40 * 2 ^ 31)
round-above c y θ l h = omega (arith, h, l)

-- The loss by Θ, at y in units of 2⁻³²; x is y·P.
module _ (n K y : ℕ) (n40 : 40 ≤ n) (hK : K ≤ 22 * 2 ^ 41) (hy : y ≤ 2 ^ 32) where
  abbrev pub t : ℕ
  t = feedback (binary K) y

  t-most : t ≤ 2 ^ 38
  t-most = feedback-most (binary K) y (binary-most K hK) hy

  -- P, the quadratic of t's cell
  abbrev P : Fraction
  P = theta_exact t

  abbrev pub x : Fraction
  x = first y *ᶠ P

  value-NonNegative : NonNegative P
  value-NonNegative = within-NonNegative two-31 (theta-rounded t)

  value-most : P ≤ᶠ 14375 /10^ 4
  value-most = theta-most t t-most

  -- b·s·x
  abbrev pub e : Fraction
  e = rising K *ᶠ x

  pub x-NonNegative : NonNegative x
  x-NonNegative = *-NonNegative (ratio-NonNegative _ unit-pos) value-NonNegative

  e-NonNegative : NonNegative e
  e-NonNegative = *-NonNegative (ratio-NonNegative K double-unit-pos) x-NonNegative

  -- t·P ≤ b·s·x
  e-least : units t *ᶠ P ≤ᶠ e
  e-least = ≤_trans (*-mono-left value-NonNegative (feedback-least K y)) (≈→≤ (*-assoc (rising K) (first y) P))

  -- 129 units of P
  part-most : units 129 *ᶠ P ≤ᶠ units 186
  part-most = ≤_trans (*-mono-right (ratio-NonNegative 129 unit-pos) value-most) feedback-part

  e-near : e ≤ᶠ units t *ᶠ P +ᶠ units 186
  e-near =
      ≤_trans (≈→≥ (*-assoc (rising K) (first y) P))
      (≤_trans (*-mono-left value-NonNegative (≤_trans (feedback-near K y hy) (≈→≥ (units-sum t 129))))
      (≤_trans (≈→≤ (+-times (units t) (units 129) P)) (+-mono (≤-refl _) part-most)))

  -- x is at most 23/16, and b·s·x at most 0.44
  first-most : first y ≤ᶠ units (2 ^ 40)
  first-most = units-≤ (omega arith)

  x-most : x ≤ᶠ units (2 ^ 40) *ᶠ 14375 /10^ 4
  x-most = *-mono (ratio-NonNegative _ unit-pos) value-NonNegative first-most value-most

  e-most : e ≤ᶠ 44 /10^ 2
  e-most =
      ≤_trans (*-mono (ratio-NonNegative 1 four-pos) x-NonNegative (quarter K hK) x-most) closed

  -- E there
  pub steep : (m : ℕ) → 40 ≤ m → E m e ≤ᶠ 156 /10^ 2
  steep m h = E-to-0_44 m h e-most

  -- P ≤ E(b·s·x) ≤ P and 8483 units
  grown-least : (m : ℕ) → 40 ≤ m → P ≤ᶠ E m e
  grown-least m h = ≤_trans (theta-least t t-most m h) (E-mono m e-least)

  grown-near : (m : ℕ) → 40 ≤ m → E m e ≤ᶠ P +ᶠ units 8483
  grown-near m h =
      ≤_trans (climb-to m (units 186) (156 /10^ 2) e-least e-near (steep m h))
      (≤_trans (+-mono (theta-near t t-most m h) steep-part)
      (≈→≤ (units-fold P 8192 291)))

  -- The loss at an exponent z of at most 0, where E(z) is y, within 17008 units.
  module _ (z : Fraction) (hz : z ≤ᶠ whole 0) (near-y : (m : ℕ) → 40 ≤ m → Within (2 ^ 40) (y * 2 ^ 8) 17008 (E m z)) where
    -- x ≤ E(z + b·s·x)
    pub x-least : x ≤ᶠ E n (z +ᶠ e)
    x-least =
        ≤_trans
        (*-mono (positive→NonNegative (E-positive (n + n) z)) value-NonNegative (within-above unit-pos (near-y (n + n) (omega arith)))
        (grown-least n n40))
        (product-least n z e hz e-NonNegative)

    -- E(z + b·s·x) ≤ x and 32934 units
    pub x-near : E n (z +ᶠ e) ≤ᶠ x +ᶠ units 32934
    x-near =
        ≤_trans (product-most n z e hz e-NonNegative)
        (≤_trans
        (*-mono (ratio-NonNegative _ unit-pos) (positive→NonNegative (E-positive (n + n) e)) (within-below unit-pos (near-y n n40))
        (grown-near (n + n) (omega arith)))
        (≤_trans (*-mono-left sum-NonNegative (≈→≥ (units-sum (y * 2 ^ 8) 17008)))
        (≤_trans (≈→≤ (≈-trans (+-times (first y) (units 17008) (P +ᶠ units 8483)) (+-cong (*-distrib (first y) P (units 8483)) (≈-refl _))))
        (≤_trans (+-mono (+-mono (≤-refl x) (first_part y hy)) second-part) (≈→≤ (units-fold x 8484 24450))))))
      where
        sum-NonNegative : NonNegative (P +ᶠ units 8483)
        sum-NonNegative = +-NonNegative value-NonNegative (ratio-NonNegative 8483 unit-pos)

        second-part : units 17008 *ᶠ (P +ᶠ units 8483) ≤ᶠ units 24450
        second-part =
            ≤_trans (*-mono-right (ratio-NonNegative 17008 unit-pos) (+-mono value-most (≤-refl _))) closed-part

  -- The computed loss.
  abbrev pub computed : ℕ
  computed = loss (binary K) y

  pub computed-below : units computed ≤ᶠ x
  unfolding loss
  computed-below =
      ≤_trans
      (ratio-≤ computed (y * 2 ^ 8 * theta t) unit-pos _ (round-below (y * theta t / 2 ^ 23) y (theta t) (div-mul-le_self (y * theta t) (2 ^ 23))))
      (≤_trans (≈→≥ (ratio-product (y * 2 ^ 8) (theta t) unit-pos two-31))
      (*-mono-right (ratio-NonNegative _ unit-pos) (within-above two-31 (theta-rounded t))))

  pub computed-near : x ≤ᶠ units (computed + 1025)
  unfolding loss
  computed-near =
      ≤_trans (*-mono-right (ratio-NonNegative _ unit-pos) (within-below two-31 (theta-rounded t)))
      (≤_trans (≈→≤ (ratio-product (y * 2 ^ 8) (theta t + 2) unit-pos two-31))
      (ratio-≤ (y * 2 ^ 8 * (theta t + 2)) (computed + 1025) _ unit-pos
      (round-above (y * theta t / 2 ^ 23) y (theta t) hy (next (y * theta t)))))
    where
      next : (v : ℕ) → v ≤ (v / 2 ^ 23 + 1) * 2 ^ 23
      next v = omega arith
