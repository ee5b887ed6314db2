-- The exact masses of a row, in grams. Definitions only.
use Rattle.std.specs.Prelude.{List, [], ◌∷◌, ℕ, ◌*◌}
use Rattle.numbers.specs.Fraction.{Fraction, ◌+ᶠ◌, ◌-ᶠ◌, ◌*ᶠ◌, whole, ◌/10^◌, ◌times◌}
use Rattle.exact.specs.declared.Season.{Season}
use Rattle.exact.specs.declared.Row.{Row}
use Rattle.exact.specs.Factors.{F1, F2, F3, F4, F5, F6, F7, factor}

-- the three mechanisms of loss
pub data Mechanism : Type 0 where
  diurnal soak running : Mechanism

-- "c·(p·F4 + (1 − p)·F3) + (1 − c)·F2", "c and p as fractions": of hot, warm and injection
unfoldable pub blend : Row → Fraction → Fraction → Fraction → Fraction
blend row hot warm injection =
    let c = row.carburettor /10^ 2 in
    let p = row.hot /10^ 2 in
    c *ᶠ (p *ᶠ hot +ᶠ (whole 1 -ᶠ p) *ᶠ warm) +ᶠ (whole 1 -ᶠ c) *ᶠ injection

module _ (n : ℕ) (counts : List ℕ) where
  -- one vehicle's loss on one day of the season, "trips as a decimal number"
  unfoldable pub day_mass : Season → Row → Mechanism → Fraction
  day_mass season row diurnal = factor n counts season row F1
  day_mass season row soak =
      row.trips /10^ 2 *ᶠ
      blend row (factor n counts season row F4) (factor n counts season row F3) (factor n counts season row F2)
  day_mass season row running =
      row.trips /10^ 2 *ᶠ
      blend row (factor n counts season row F7) (factor n counts season row F6) (factor n counts season row F5)

  -- "days·vehicles·F1; days·vehicles·trips·(..); running likewise with F7, F6, F5; summed over seasons"
  unfoldable pub mass : List Season → Row → Mechanism → Fraction
  mass [] row mechanism = whole 0
  mass (season ∷ seasons) row mechanism =
      (season.days * row.vehicles) times day_mass season row mechanism +ᶠ mass seasons row mechanism
