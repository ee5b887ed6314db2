-- Need not be believed: the computed breakthrough of a canister, from its values by distance from 14:00.
use Rattle.std.specs.Prelude.{Bool, List, ℕ, ◌+◌, ◌*◌, ◌-◌, ◌/◌, ◌^◌, ◌<◌, ◌≤◌, min, get_or}
use Rattle.numbers.specs.Lists.{at}
use Rattle.bounds.specs.Short.{short, short_limit}
use Rattle.factors.specs.Means.{mean_units}
use Rattle.parking.specs.Grid.{apart_of}
use Rattle.breakthrough.specs.declared.curve.Curve.{Curve}

-- the exponent of a rise, at one temperature: up to that of the saturating load
abbrev pub exponent_of : Curve → ℕ → ℕ
exponent_of c rise = min (c.exponent + c.reach * rise / 2 ^ 23) c.last

-- of the vapour of a rise
unfoldable pub through : Curve → ℕ → ℕ
through c rise = short (exponent_of c rise) * 2 ^ 4 + (c.gain * rise / 2 ^ 40 - c.room) - c.first

-- the canister at a distance from 14:00
abbrev pub no_curve : Curve
no_curve = record { exponent = 0; last = 0; reach = 0; room = 0; first = 0; gain = 0 }

abbrev pub curve_at : List Curve → ℕ → Curve
curve_at curves d = get_or curves d no_curve

-- every exponent that can arise below saturation is one that the exponential takes, and the products fit; where the exponent stays below
-- saturation by more than the cuts, nothing overflows
pub record CurveReady (c : Curve) : Type 0 where
  pub exponent-below : c.exponent < 2 ^ 62
  pub last-below : c.last < short_limit
  pub reach-most : c.reach ≤ 9 * 2 ^ 36
  pub gain-most : c.gain ≤ 36 * 2 ^ 40
  pub room-left : (rise : ℕ) → rise ≤ 72 * 2 ^ 40 → c.exponent + c.reach * rise / 2 ^ 23 + 2 ^ 24 < c.last → c.gain * rise / 2 ^ 40 ≤ c.room

-- the mean over a raise at the end, or the start, of a parking, of raises by distance
abbrev pub raise_through : List ℕ → Bool → List ℕ → List Curve → ℕ
raise_through cells ends raises curves =
    mean_units cells (λ (cell : ℕ). through (curve_at curves (apart_of ends cell)) (at raises (apart_of ends cell)))
