-- Need not be believed: the computed factors, that is which whole numbers they are, in units of 2⁻²⁸ g and in micrograms.
use Rattle.std.specs.Prelude.{true, false, Option, Some, None, List, ℕ, ◌+◌, ◌*◌, ◌-◌, ◌/◌, ◌^◌, leb}
use Rattle.bounds.specs.Exponential.{exponential}
use Rattle.bounds.specs.Short.{binary}
use Rattle.thresholds.specs.Thresholds.{first_kilometres}
use Rattle.exact.specs.declared.Canister.{Canister}
use Rattle.exact.specs.declared.Season.{Season}
use Rattle.exact.specs.declared.Row.{Row}
use Rattle.exact.specs.Day.{start_mark}
use Rattle.exact.specs.Factors.{Factor, F1, F2, F3, F4, F5, F6, F7, end_hour, duration}
use Rattle.starting_loads.specs.Net.{start_units}
use Rattle.sheet.specs.Range.{mark_warmth, halves}
use Rattle.marks.specs.Marks.{step_at, rise_error, raise, tenths, rate, passed}
use Rattle.factors.specs.Escape.{tenth_grams, base, growth, driven_error, written_error, break_units}
use Rattle.factors.specs.Means.{mean_units}

-- the mark at which a cell's parking starts, and at which it ends
unfoldable pub start_of : ℕ → ℕ
start_of cell = start_mark (end_hour cell) (duration cell)

unfoldable pub end_of : ℕ → ℕ
end_of cell = start_mark (end_hour cell) 0

-- how much E(0.0716·T) rises over the steps of a cell's parking that rise, from below
unfoldable pub parking_rise : Season → ℕ → ℕ
parking_rise season cell = passed (step_at (mark_warmth season)) (end_hour cell) (duration cell) - rise_error

-- the hourly permeation at the marks of a cell's parking, summed
unfoldable pub parking_rates : Season → ℕ → ℕ
parking_rates season cell = passed (λ (i : ℕ). rate season.vp (mark_warmth season i)) (end_hour cell) (duration cell)

-- (1 − h/100)·tank·0.025·E(0.0205·vp), from below, in units of 2⁻⁴⁰: grams of vapour for a rise of 1
unfoldable pub gain : Season → Row → ℕ
gain season row = (100 - row.fill) * row.tank * exponential (205 * season.vp * 10 ^ 9 + 16 * 10 ^ 14) / 40000

-- the load at parking start where a and 2·b·s are these, in units of 2⁻⁴⁴: from 17 km on it is found by steps; up to 16 km it is 0, as is the one
-- that is written
unfoldable pub row_start : Row → ℕ → ℕ → ℕ
row_start row a k =
    elim (leb first_kilometres row.mileage) [
      | true ↦ start_units a k (halves row.canister) (tenth_grams row.saturation) row.mileage
      | false ↦ tenth_grams row.load
    ]

-- and how far what is lost there can be above `loss`
unfoldable pub loss_error : Row → ℕ
loss_error row = elim (leb first_kilometres row.mileage) [ true ↦ driven_error | false ↦ written_error ]

module _ (season : Season) (row : Row) where
  -- vapour of a rise of E(0.0716·T)
  unfoldable pub vapour_units : ℕ → ℕ
  vapour_units rise = gain season row * rise / 2 ^ 40

  -- a and 2·b·s at mark i
  abbrev pub base_at : ℕ → ℕ
  base_at i = base season.vp (mark_warmth season i)

  abbrev pub growth_at : ℕ → ℕ
  growth_at i = growth row.canister season.vp (mark_warmth season i)

  -- the load at parking start there
  abbrev pub start_at : ℕ → ℕ
  start_at i = row_start row (binary (base_at i)) (binary (growth_at i))

  -- what breaks through of the vapour of such a rise, from mark i
  unfoldable pub through_units : ℕ → ℕ → ℕ
  through_units i rise =
      break_units (base_at i) (growth_at i) (tenth_grams row.saturation) (loss_error row) (start_at i) (gain season row) rise

  module _ (counts : List ℕ) where
    -- the mean escape of a rise that each cell has, from the mark that each cell names: without canister the rise is
    -- averaged first, since vapour grows with it evenly
    unfoldable pub escape_units : Option Canister → (ℕ → ℕ) → (ℕ → ℕ) → ℕ
    escape_units None mark rise = vapour_units (mean_units counts rise)
    escape_units (Some c) mark rise = mean_units counts (λ (cell : ℕ). through_units (mark cell) (rise cell))

    -- escape from the temperature of the named mark to r above it
    unfoldable pub escape_over_units : (ℕ → ℕ) → ℕ → ℕ
    escape_over_units mark r = escape_units row.canister mark (λ (cell : ℕ). raise r (mark_warmth season (mark cell)))

    -- the same without canister only
    unfoldable pub open_units : Option Canister → ℕ → ℕ
    open_units None r = vapour_units (mean_units counts (λ (cell : ℕ). raise r (mark_warmth season (end_of cell))))
    open_units (Some c) r = 0

    unfoldable pub diurnal_units : ℕ
    diurnal_units =
        escape_units row.canister start_of (parking_rise season) +
        mean_units counts
        (λ (cell : ℕ). parking_rates season cell / 2)

    -- hourly permeation at T1 + 11, and at T2 + 15 for the hours of a trip
    unfoldable pub soak_units : ℕ
    soak_units = mean_units counts (λ (cell : ℕ). rate season.vp (mark_warmth season (start_of cell) + tenths 110))

    unfoldable pub running_units : ℕ
    running_units =
        row.minutes * mean_units counts (λ (cell : ℕ). rate season.vp (mark_warmth season (end_of cell) + tenths 150)) / 60

    unfoldable pub car_units : Factor → ℕ
    car_units F1 = diurnal_units
    car_units F2 = soak_units
    car_units F3 = escape_over_units start_of (tenths 45) + soak_units
    car_units F4 = escape_over_units start_of (tenths 60) + soak_units
    car_units F5 = running_units
    car_units F6 = running_units + open_units row.canister (tenths 10)
    car_units F7 = running_units + open_units row.canister (tenths 50)

    unfoldable pub two_wheeler_units : Factor → ℕ
    two_wheeler_units F1 = diurnal_units
    two_wheeler_units F2 = escape_over_units start_of (tenths 15)
    two_wheeler_units F3 = escape_over_units start_of (tenths 35)
    two_wheeler_units F4 = escape_over_units start_of (tenths 35)
    two_wheeler_units F5 = escape_over_units end_of (tenths 10)
    two_wheeler_units F6 = escape_over_units end_of (tenths 25)
    two_wheeler_units F7 = escape_over_units end_of (tenths 25)

    -- factor k in units of 2⁻²⁸ g, from below
    unfoldable pub factor_units : Factor → ℕ
    factor_units k = elim (leb 5 row.class) [ true ↦ two_wheeler_units k | false ↦ car_units k ]

-- how far factor k can be above `factor_units`
abbrev pub factor_error : ℕ
factor_error = 188

-- micrograms, cut down, and cut up: 10⁶/2²⁸ is 15625/2²²
unfoldable pub low_micrograms : ℕ → ℕ
low_micrograms units = units * 15625 / 2 ^ 22

unfoldable pub high_micrograms : ℕ → ℕ
high_micrograms units = (units + factor_error) * 15625 / 2 ^ 22 + 1
