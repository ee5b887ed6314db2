-- Need not be believed: counts of units of 2⁻⁴⁰ as fractions, and an exponent that is known within a width.
use Rattle.std.specs.Prelude.{ℕ, ◌^◌, ◌<◌}
use Rattle.std.proofs.Common.{arith}
use Rattle.numbers.specs.Fraction.{Fraction, ◌+ᶠ◌, whole, ratio}
use Rattle.bounds.specs.Enclosure.{Within}

pub unit-pos : 0 < 2 ^ 40
unit-pos = omega arith

-- k·2⁻⁴⁰
abbrev pub units : ℕ → Fraction
units k = ratio k (2 ^ 40) unit-pos

-- z is known as x within w, in units of 2⁻⁵³: x/2⁵³ ≤ z + 16 ≤ (x + w)/2⁵³
pub record Held (x w : ℕ) (z : Fraction) : Type 0 where
  pub raised : Within (2 ^ 53) x w (z +ᶠ whole 16)
