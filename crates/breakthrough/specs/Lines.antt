-- Need not be believed: what the computed values of a row's canister in a season are.
use Rattle.std.specs.Prelude.{List, ◌≡◌, ℕ, ◌+◌, ◌*◌, ◌-◌, ◌^◌, ◌≤◌, ◌<◌, get_or}
use Rattle.bounds.specs.Short.{short, binary, line_of, reach_of}
use Rattle.bounds.specs.Ahead.{ahead}
use Rattle.exact.specs.declared.Season.{Season}
use Rattle.exact.specs.declared.Row.{Row}
use Rattle.factors.specs.Escape.{base, tenth_grams}
use Rattle.factors.specs.Units.{loss_error, base_at, growth_at, row_start, start_at, gain}
use Rattle.breakthrough.specs.declared.curve.Curve.{Curve}
use Rattle.starting_loads.specs.declared.loads.Line.{Line}
use Rattle.breakthrough.specs.Loads.{LoadReady}
use Rattle.breakthrough.specs.Through.{curve_at}

-- Values by distance from 14:00 are those of the mark so far before it. a + 16 and 2·b·s are held in units of 2⁻⁴⁴.

-- at a temperature, for 2·s = times
unfoldable pub line_of_warmth : ℕ → ℕ → ℕ → Line
line_of_warmth vp times θ = record { base = binary (base vp θ); growth = binary ((112 * 10 ^ 11 + θ - 15 * 10 ^ 8 * vp) * times) }

-- at a distance
abbrev pub no_line : Line
no_line = record { base = 0; growth = 0 }

abbrev pub line_at : List Line → ℕ → Line
line_at lines d = get_or lines d no_line

-- the canister whose a, 2·b·s and load at parking start are these
pub record CurveBy (a k load saturation gain error : ℕ) (c : Curve) : Type 0 where
  pub exponent-is : c.exponent ≡ line_of a k load
  pub last_is : c.last ≡ line_of a k saturation
  pub reach-is : c.reach ≡ reach_of k gain
  pub room-is : c.room ≡ saturation + 1 - load
  pub first-is : c.first ≡ short (line_of a k load) * 2 ^ 4 + error
  pub gain-is : c.gain ≡ gain

-- they are in range: every exponent up to m_sat is at most 3
pub record CurveFits (a k load saturation gain : ℕ) : Type 0 where
  pub base-most : a ≤ 3 * 2 ^ 46
  pub growth-most : k ≤ 2 ^ 43
  pub load-most : load ≤ saturation
  pub saturation-most : saturation ≤ 369 * 2 ^ 40
  pub exponent-most : line_of a k saturation ≤ 19 * 2 ^ 53
  pub gain-most : gain ≤ 36 * 2 ^ 40

-- what a canister is fitted from: its a and 2·b·s, and the vapour in the row's tank for a rise of 1
pub record FitReady (row : Row) (a k vapour : ℕ) : Type 0 where
  pub load-ready : LoadReady row a k
  pub curve-fits : CurveFits a k (row_start row a k) (tenth_grams row.saturation) vapour

module _ (season : Season) (row : Row) where
  abbrev pub bases_of : ℕ → ℕ
  bases_of d = binary (base_at season row (ahead d))

  abbrev pub growths_of : ℕ → ℕ
  growths_of d = binary (growth_at season row (ahead d))

  abbrev pub starts_of : ℕ → ℕ
  starts_of d = start_at season row (ahead d)

  -- the canister of a row in a season, at each distance
  pub record CurvesOf (curves : List Curve) : Type 0 where
    pub by : (d : ℕ) → d < 25
        → CurveBy (bases_of d) (growths_of d) (starts_of d) (tenth_grams row.saturation) (gain season row) (loss_error row) (curve_at curves d)
