-- Fractions. Document 01: "Every exact value is a fraction, a signed whole numerator over a positive whole denominator,
-- and two are compared by multiplying crosswise." Definitions only.
use Rattle.std.specs.Prelude.{Bool, ◌≡◌, ℕ, suc, zero, ◌+◌, ◌*◌, ◌-◌, ◌^◌, ◌≤◌, ◌<◌, max, leb}
use Rattle.std.proofs.Common.{arith, mul-pos}
use Rattle.std.proofs.Math.Nat.{le-max_left, one-le-pow, zero-lt-suc}

-- (up - down) / den: the signed whole numerator is written as a difference of two natural numbers
pub record Fraction : Type 0 where
  pub up : ℕ
  pub down : ℕ
  pub den : ℕ
  pub pos : 0 < den

-- Compared crosswise, with every term on the side where it is added.
infix 4 ◌≤ᶠ◌
pub record ◌≤ᶠ◌ (x y : Fraction) : Type 0 where
  pub cross : x.up * y.den + y.down * x.den ≤ y.up * x.den + x.down * y.den

infix 4 ◌<ᶠ◌
pub record ◌<ᶠ◌ (x y : Fraction) : Type 0 where
  pub cross : x.up * y.den + y.down * x.den < y.up * x.den + x.down * y.den

-- the same value
infix 4 ◌≈ᶠ◌
pub record ◌≈ᶠ◌ (x y : Fraction) : Type 0 where
  pub cross : x.up * y.den + y.down * x.den ≡ y.up * x.den + x.down * y.den

-- the comparison as a test
infix 4 ◌≤?◌
unfoldable pub ◌≤?◌ : Fraction → Fraction → Bool
x ≤? y = leb (x.up * y.den + y.down * x.den) (y.up * x.den + x.down * y.den)

infixl 6 ◌+ᶠ◌
unfoldable pub ◌+ᶠ◌ : Fraction → Fraction → Fraction
x +ᶠ y = record {
  up = x.up * y.den + y.up * x.den;
  down = x.down * y.den + y.down * x.den;
  den = x.den * y.den;
  pos = mul-pos x.pos y.pos;
}

unfoldable pub negᶠ : Fraction → Fraction
negᶠ x = record { up = x.down; down = x.up; den = x.den; pos = x.pos }

infixl 6 ◌-ᶠ◌
unfoldable pub ◌-ᶠ◌ : Fraction → Fraction → Fraction
x -ᶠ y = x +ᶠ negᶠ y

infixl 7 ◌*ᶠ◌
unfoldable pub ◌*ᶠ◌ : Fraction → Fraction → Fraction
x *ᶠ y = record {
  up = x.up * y.up + x.down * y.down;
  down = x.up * y.down + x.down * y.up;
  den = x.den * y.den;
  pos = mul-pos x.pos y.pos;
}

pub one-pos : 0 < 1
one-pos = omega arith

-- a whole number
unfoldable pub whole : ℕ → Fraction
whole k = record { up = k; down = 0; den = 1; pos = one-pos }

infixr 8 ◌^ᶠ◌
unfoldable pub ◌^ᶠ◌ : Fraction → ℕ → Fraction
x ^ᶠ zero = whole 1
x ^ᶠ suc i = x ^ᶠ i *ᶠ x

pub ten-pos : (places : ℕ) → 0 < 10 ^ places
ten-pos places = one-le-pow places 10 (zero-lt-suc 9)

-- a decimal number: 0.0716 is 716 /10^ 4
infix 8 ◌/10^◌
unfoldable pub ◌/10^◌ : ℕ → ℕ → Fraction
k /10^ places = record { up = k; down = 0; den = 10 ^ places; pos = ten-pos places }

-- a / b
unfoldable pub ratio : ℕ → (b : ℕ) → 0 < b → Fraction
ratio a b p = record { up = a; down = 0; den = b; pos = p }

-- x / k for a whole k from 1 upward. (max changes nothing there; it makes the definition total.)
infixl 7 ◌over◌
unfoldable pub ◌over◌ : Fraction → ℕ → Fraction
x over k = record { up = x.up; down = x.down; den = x.den * max 1 k; pos = mul-pos x.pos (le-max_left 1 k) }

-- 1 / x for an x above 0 (max as above)
unfoldable pub inverse : Fraction → Fraction
inverse x = record { up = x.den; down = 0; den = max 1 (x.up - x.down); pos = le-max_left 1 (x.up - x.down) }

-- k times x, for a count k. (0 has a line of its own, so that a value counted 0 times is not computed.)
infixl 7 ◌times◌
unfoldable pub ◌times◌ : ℕ → Fraction → Fraction
zero times x = whole 0
suc k times x = record { up = suc k * x.up; down = suc k * x.down; den = x.den; pos = x.pos }
