-- Every fact on E, on the root and on the computed values around them that a crate above this one cites: "of which the inventory uses the
-- stated bounds alone". Proved as `laws` in proofs/Laws. Definitions only.
use Rattle.std.specs.Prelude.{◌&&◌, ◌≡◌, ℕ, suc, ◌+◌, ◌*◌, ◌/◌, ◌%◌, ◌^◌, ◌≤◌, ◌<◌, leb, ltb, get_or}
use Rattle.numbers.specs.Fraction.{Fraction, ◌≤ᶠ◌, ◌<ᶠ◌, ◌≈ᶠ◌, ◌+ᶠ◌, negᶠ, ◌*ᶠ◌, ◌^ᶠ◌, whole, ◌/10^◌}
use Rattle.bounds.specs.Series.{E, root, cut_root, power2_5, multiple, CutRootTheorem}
use Rattle.bounds.specs.Enclosure.{Within, WithinAll}
use Rattle.bounds.specs.Exponential.{exponent, exponent_limit, exponential, exponential_error}
use Rattle.bounds.specs.WholeExponents.{far, far_above, far_units}
use Rattle.bounds.specs.Short.{short_exponent, short, short_limit, short_error}
use Rattle.bounds.specs.Line.{units, Held}
use Rattle.bounds.specs.Theta.{theta, theta_exact}
use Rattle.bounds.specs.Power.{degrees, degrees_limit, power, power_error}
use Rattle.bounds.specs.Weights.{w, apart}
use Rattle.bounds.specs.Ahead.{ahead}

-- E for every n
pub record SeriesLaws : Type 0 where
  -- equal exponents have equal values, it grows, it is above 0, and 1 at 0
  pub same : {x y : Fraction} (n : ℕ) → x ≈ᶠ y → E n x ≈ᶠ E n y
  pub grows : {x y : Fraction} (n : ℕ) → x ≤ᶠ y → E n x ≤ᶠ E n y
  pub positive : (n : ℕ) (x : Fraction) → whole 0 <ᶠ E n x
  pub at-0 : (n : ℕ) → E n (whole 0) ≈ᶠ whole 1
  pub to-0 : {x : Fraction} (n : ℕ) → x ≤ᶠ whole 0 → E n x ≤ᶠ whole 1
  -- a sum of exponents of at least 0, from above and from below
  pub product-above : (n : ℕ) {x y : Fraction} → whole 0 ≤ᶠ x → whole 0 ≤ᶠ y → E n (x +ᶠ y) ≤ᶠ E n x *ᶠ E n y
  pub product-below : (n m : ℕ) {x y : Fraction} → whole 0 ≤ᶠ x → whole 0 ≤ᶠ y → E n x *ᶠ E m y ≤ᶠ E (n + m) (x +ᶠ y)
  -- a sum of an exponent of at most 0 and one of at least 0, between two products
  pub sum-least : (n : ℕ) (z y : Fraction) → z ≤ᶠ whole 0 → whole 0 ≤ᶠ y → E (n + n) z *ᶠ E n y ≤ᶠ E n (z +ᶠ y)
  pub sum-most : (n : ℕ) (z y : Fraction) → z ≤ᶠ whole 0 → whole 0 ≤ᶠ y → E n (z +ᶠ y) ≤ᶠ E n z *ᶠ E (n + n) y
  -- E is its own slope: where x ≤ y ≤ x + d and E(y) is at most steepest, E(y) ≤ E(x) + d·steepest
  pub slope : {x y : Fraction} (n : ℕ) (d steepest : Fraction) → x ≤ᶠ y → y ≤ᶠ x +ᶠ d → E n y ≤ᶠ steepest → E n y ≤ᶠ E n x +ᶠ d *ᶠ steepest
  -- 1 + x
  pub one-plus : (x : Fraction) → whole 0 ≤ᶠ x → whole 1 +ᶠ x ≤ᶠ E 1 x

-- E for every n from 40 upward, at the ends of the ranges that an accepted sheet brings
pub record EndLaws : Type 0 where
  pub to-0_44 : {z : Fraction} (n : ℕ) → 40 ≤ n → z ≤ᶠ 44 /10^ 2 → E n z ≤ᶠ 156 /10^ 2
  pub to-2_255 : {z : Fraction} (n : ℕ) → 40 ≤ n → z ≤ᶠ 2255 /10^ 3 → E n z ≤ᶠ 954 /10^ 2
  pub to-2_8201 : {z : Fraction} (n : ℕ) → 40 ≤ n → z ≤ᶠ 28201 /10^ 4 → E n z ≤ᶠ 169 /10^ 1
  pub to-3 : {z : Fraction} (n : ℕ) → 40 ≤ n → z ≤ᶠ 3 /10^ 0 → E n z ≤ᶠ 201 /10^ 1
  pub to-3_58 : {z : Fraction} (n : ℕ) → 40 ≤ n → z ≤ᶠ 35800 /10^ 4 → E n z ≤ᶠ 36 /10^ 0
  pub to-4_0096 : {z : Fraction} (n : ℕ) → 40 ≤ n → z ≤ᶠ 40096 /10^ 4 → E n z ≤ᶠ 56 /10^ 0
  pub at-2_78 : (n : ℕ) → 40 ≤ n → whole 16 ≤ᶠ E n (278 /10^ 2)
  pub at-minus-7_75 : (n : ℕ) → 40 ≤ n → E n (negᶠ (775 /10^ 2)) ≤ᶠ 125 /10^ 3

-- E at the whole exponents from 0 to 14, by two tables in units of 2⁻³⁰
pub record WholeLaws : Type 0 where
  -- E lies between them for every n from 40 upward, and the upper one is at most 3.7·10⁻⁹ of the lower one above it
  pub below : (c : ℕ) → c < 15 → (n : ℕ) → 40 ≤ n → far_units (get_or far c 0) ≤ᶠ E n (whole c)
  pub above : (c : ℕ) → c < 15 → (n : ℕ) → 40 ≤ n → E n (whole c) ≤ᶠ far_units (get_or far_above c 0)
  pub gap : (c : ℕ) → c < 15 → 10 ^ 12 * get_or far_above c 0 ≤ (10 ^ 12 + 3700) * get_or far c 0
  -- the lower one from an entry to the next, its size, and two of its entries
  pub triple : (c : ℕ) → c < 14 → get_or far (suc c) 0 ≤ 3 * get_or far c 0
  pub fits : (c : ℕ) → c < 15 → get_or far c 0 < 2 ^ 51
  pub at-2 : get_or far 2 0 ≤ 8 * 2 ^ 30
  pub at-14 : 12 * 10 ^ 5 * 2 ^ 30 ≤ get_or far 14 0

-- the computed exponential, in units of 2⁻⁴⁰, of the exponent x·10⁻¹⁴ − 16
pub record ExponentialLaws : Type 0 where
  -- it encloses E for every n from 40 upward, within an error that has these bounds up to 1.41, 2.3, 3.6 and at the end
  pub encloses : (x : ℕ) → x < exponent_limit → WithinAll (2 ^ 40) (exponential x) (exponential_error x) (λ n. E n (exponent x))
  pub error-1_41 : (x : ℕ) → x ≤ 16 * 10 ^ 14 + 2 ^ 47 → exponential_error x ≤ 35
  pub error-2_3 : (x : ℕ) → x ≤ 183 * 10 ^ 13 → exponential_error x ≤ 83
  pub error-3_6 : (x : ℕ) → x ≤ 196 * 10 ^ 13 → exponential_error x ≤ 291
  pub error-4_1 : (x : ℕ) → x < exponent_limit → exponential_error x ≤ 475
  -- it grows; how large it is up to 1.41; and at 0 and at 1.41
  pub grows : {x y : ℕ} → x ≤ y → y < exponent_limit → exponential x ≤ exponential y
  pub fits-1_41 : (x : ℕ) → x ≤ 16 * 10 ^ 14 + 2 ^ 47 → exponential x < 2 ^ 43
  pub at-0 : exponential (16 * 10 ^ 14) ≡ 2 ^ 40
  pub at-1_41 : 4 * 2 ^ 40 ≤ exponential (16 * 10 ^ 14 + 2 ^ 47)

-- the short exponential, in units of 2⁻³⁶, of the exponent x·2⁻⁵³ − 16
pub record ShortLaws : Type 0 where
  -- it encloses E for every n from 40 upward; it fits, and up to 0 it is at most 1
  pub encloses : (x : ℕ) → x < short_limit → WithinAll (2 ^ 36) (short x) (short_error x) (λ n. E n (short_exponent x))
  pub fits : (x : ℕ) → x < short_limit → short x < 2 ^ 41
  pub most-1 : (x : ℕ) → x ≤ 16 * 2 ^ 53 → short x ≤ 2 ^ 36
  -- it encloses E at an exponent z that is known within w units of 2⁻⁵³, up to 0 and up to 3
  pub held-to-0 : {x w : ℕ} {z : Fraction} → Held x w z → z ≤ᶠ whole 0 → (n : ℕ) → 40 ≤ n
      → Within (2 ^ 36) (short x) (1047 + (w / 2 ^ 17 + 1)) (E n z)
  pub held-to-3 : {x w : ℕ} {z : Fraction} → Held x w z → z ≤ᶠ whole 3 → (n : ℕ) → 40 ≤ n
      → Within (2 ^ 36) (short x) (5797 + (201 * w / 1310720 + 1)) (E n z)

-- Θ(t), the number with Θ = E(t·Θ), for t up to a quarter in units of 2⁻⁴⁰
pub record ThetaLaws : Type 0 where
  -- the quadratic P of t's cell is just below it for every n from 40 upward: P ≤ E(t·P) ≤ P + 2⁻²⁷
  pub least : (t : ℕ) → t ≤ 2 ^ 38 → (n : ℕ) → 40 ≤ n → theta_exact t ≤ᶠ E n (units t *ᶠ theta_exact t)
  pub near : (t : ℕ) → t ≤ 2 ^ 38 → (n : ℕ) → 40 ≤ n → E n (units t *ᶠ theta_exact t) ≤ᶠ theta_exact t +ᶠ units 8192
  -- it is at most 23/16, and the computed Θ, in units of 2⁻³¹, is P rounded down twice
  pub most : (t : ℕ) → t ≤ 2 ^ 38 → theta_exact t ≤ᶠ 14375 /10^ 4
  pub rounded : (t : ℕ) → Within (2 ^ 31) (theta t) 2 (theta_exact t)

-- T^2.5 and its root
pub record PowerLaws : Type 0 where
  pub encloses : (θ : ℕ) → θ ≤ degrees_limit → WithinAll (2 ^ 24) (power θ) power_error (λ n. power2_5 n (degrees θ))
  pub fits : (θ : ℕ) → θ ≤ degrees_limit → power θ < 2 ^ 40
  pub least : (n : ℕ) (t : Fraction) → whole 0 ≤ᶠ power2_5 n t
  pub from-0 : (n : ℕ) {t : Fraction} → whole 0 ≤ᶠ t → power2_5 n t ≡ cut_root n (t ^ᶠ 5)
  pub below-0 : (n : ℕ) {t : Fraction} → t <ᶠ whole 0 → power2_5 n t ≡ whole 0
  pub root_is : CutRootTheorem
  pub root-of-square : (n m : ℕ) → root (4 ^ n * (m * m)) ≡ m * 2 ^ n
  pub root-multiple : (n : ℕ) (x : Fraction) → cut_root n x ≡ multiple n (cut_root n x).up

-- the hourly weights: they are at most 1, and from a mark to the next they rise from 2:00 to 14:00 and fall else; no mark
-- is further from 14:00 than 12 hours, and as far from it they are equal
pub record WeightLaws : Type 0 where
  pub most : (i : ℕ) → w i ≤ 10 ^ 9
  pub rises : (i : ℕ) → i < 48 → leb (w i) (w ((i + 1) % 48)) ≡ (leb 4 i && ltb i 28)
  pub near : (i : ℕ) → apart i ≤ 24
  pub alike : (i : ℕ) → i < 48 → w (ahead (apart i)) ≡ w i

pub record Laws : Type 0 where
  pub series : SeriesLaws
  pub ends : EndLaws
  pub wholes : WholeLaws
  pub exponential : ExponentialLaws
  pub short : ShortLaws
  pub theta : ThetaLaws
  pub power : PowerLaws
  pub weights : WeightLaws
