-- What a filed figure stands for, in milligrams. Definitions only.
use Rattle.std.specs.Prelude.{ℕ, ◌+◌, ◌-◌, ◌^◌, ◌≤◌, ◌<◌}
use Rattle.numbers.specs.Fraction.{Fraction, ◌≤ᶠ◌, ◌+ᶠ◌, ◌-ᶠ◌, ◌*ᶠ◌, whole, ◌/10^◌}
use Rattle.marking.specs.declared.Unit.{Unit}
use Rattle.marking.specs.declared.Unit.TheVariants.{Milligram, Gram, Kilogram, Tonne}
use Rattle.marking.specs.declared.Filed.{Filed}

-- a unit as a power of ten of milligrams
unfoldable pub exponent : Unit → ℕ
exponent Milligram = 0
exponent Gram = 3
exponent Kilogram = 6
exponent Tonne = 9

-- the figure as it is written: 2.834 t is 2834/10³·10⁹ mg
unfoldable pub written : Filed → Fraction
written f = f.digits /10^ f.places *ᶠ whole (10 ^ exponent f.unit)

-- half of one in its last place: 0.0005 t
unfoldable pub half_place : Filed → Fraction
half_place f = 5 /10^ (f.places + 1) *ᶠ whole (10 ^ exponent f.unit)

-- what the figure stands for: from 2.8335 t to 2.8345 t, both included
unfoldable pub least : Filed → Fraction
least f = written f -ᶠ half_place f

unfoldable pub most : Filed → Fraction
most f = written f +ᶠ half_place f

pub record StandsFor (f : Filed) (x : Fraction) : Type 0 where
  pub above : least f ≤ᶠ x
  pub below : x ≤ᶠ most f

-- how many powers of ten the last place is above the milligram, and how many below it; one of the two is 0
unfoldable pub places_above : Filed → ℕ
places_above f = exponent f.unit - f.places

unfoldable pub places_below : Filed → ℕ
places_below f = f.places - exponent f.unit

-- the limits: no place below a millionth of a milligram, at most 18 digits, and below 10¹⁸ mg, a billion tonnes
pub record Readable (f : Filed) : Type 0 where
  pub few-places : f.places ≤ exponent f.unit + 6
  pub few-digits : f.digits < 10 ^ (18 - places_above f)
