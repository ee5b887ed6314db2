-- The exact shares of a row's exact masses, as fractions. Definitions only.
use Rattle.numbers.specs.Fraction.{Fraction, ◌≤ᶠ◌, ◌+ᶠ◌, whole, ◌over◌, ◌times◌}
use Rattle.map_shares.specs.declared.Span.{Span}
use Rattle.map_shares.specs.declared.Part.{Part}
use Rattle.map_shares.specs.declared.Words.{Words}
use Rattle.map_shares.specs.Kinds.{Road}

-- an exact mass, in milligrams, lies in a mechanism's two words
pub record InSpan (s : Span) (x : Fraction) : Type 0 where
  pub above : whole s.low ≤ᶠ x
  pub below : x ≤ᶠ whole s.high

-- three exact masses
pub record ExactMasses : Type 0 where
  pub diurnal : Fraction
  pub soak : Fraction
  pub running : Fraction

-- each lies in its two words
pub record InWords (w : Words) (x : ExactMasses) : Type 0 where
  pub diurnal-in : InSpan w.diurnal x.diurnal
  pub soak-in : InSpan w.soak x.soak
  pub running-in : InSpan w.running x.running

-- the exact share of a mass: no share is rounded here
unfoldable pub exact_share : Fraction → Part → Fraction
exact_share x p = p.part times x over p.all

-- "the sum of a cell's exact shares"
unfoldable pub exact_sum : ExactMasses → Road → Fraction
exact_sum x k = exact_share x.diurnal k.diurnal +ᶠ exact_share x.soak k.soak +ᶠ exact_share x.running k.running
