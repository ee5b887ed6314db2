-- The seven factors of a row in a season are within their limits, and what is made of them fits 64 bits.
-- Assumes nothing.
use mathlib.Core.Bool.{Bool, true, false}
use mathlib.Core.List.{List}
use mathlib.Core.Path.{◌≡◌, refl}
use Prim.Native.Nat.{ℕ, suc, zero, ◌+◌, ◌*◌, ◌-◌, ◌≤◌}
use native.Mathlib.Nat.{mul-le-mul}
use native.Mathlib.Omega.{arith}
use lib.ListN.{get_or}
use Rattle.numbers.specs.Lists.{tab}
use Rattle.exact.specs.declared.Season.{Season}
use Rattle.exact.specs.declared.Row.{Row}
use Rattle.factors.specs.Units.{high_micrograms}
use Rattle.row_factors.specs.Seven.{seven_units}
use Rattle.factors.proofs.FactorBound.{low-below-high}
use Rattle.sheet.specs.Limits.{trips_limit}
use Rattle.masses.specs.Figures.{µg, blended, day_figure}
use Rattle.row_factors.specs.Units.{trip_limit, UnitsInRange}
use Rattle.masses.specs.Use.{UseInRange}
use Rattle.masses.specs.Day.{MicrogramsInRange, rounded, rounded_all, six_figures, day_figures}
use Rattle.masses.proofs.MassSizes.{mixed-most, blend-most}

-- what one vehicle loses on one day follows from them
pub figures-are : (counts : List ℕ) (season : Season) (row : Row) → six_figures row (seven_units season row counts) ≡ day_figures counts season row
unfolding seven_units tab rounded day_figures day_figure µg
figures-are counts season row = refl

-- a factor cut up or down is at most the one cut up
rounded-most : (up : Bool) (units : ℕ) → rounded up units ≤ high_micrograms units
unfolding rounded
rounded-most true units = omega arith
rounded-most false units = low-below-high units

-- in micrograms each is within its limit
pub micrograms-in-range : (up : Bool) {units : List ℕ} → UnitsInRange units → MicrogramsInRange (rounded_all up units)
unfolding tab
micrograms-in-range up {units} h = record { diurnal-most = omega (arith, rounded-most up (get_or units 0 0), h.diurnal-most); trip-most = go }
  where
    trip : (k : ℕ) → rounded up (get_or units (suc k) 0) ≤ trip_limit
    trip k = omega (arith, rounded-most up (get_or units (suc k) 0), h.trip-most k)

    go : (k : ℕ) → get_or (rounded_all up units) (suc k) 0 ≤ trip_limit
    go zero = trip 0
    go (suc zero) = trip 1
    go (suc (suc zero)) = trip 2
    go (suc (suc (suc zero))) = trip 3
    go (suc (suc (suc (suc zero)))) = trip 4
    go (suc (suc (suc (suc (suc zero))))) = trip 5
    go (suc (suc (suc (suc (suc (suc k)))))) = omega arith

-- Hot and warm by their share, then with injection, then for each trip of the day.
module _ {row : Row} (used : UseInRange row) {hot warm injection : ℕ} (h : hot ≤ trip_limit) (w : warm ≤ trip_limit)
    (i : injection ≤ trip_limit) where
  pub mixed-fits : row.hot * hot + (100 - row.hot) * warm ≤ 100 * trip_limit
  mixed-fits = mixed-most row.hot (100 - row.hot) trip_limit (omega (arith, used.hot-most)) h w

  pub blend-fits : row.carburettor * (row.hot * hot + (100 - row.hot) * warm) + (100 - row.carburettor) * 100 * injection ≤ 10000 * trip_limit
  blend-fits = blend-most row.carburettor row.hot trip_limit used.carburettor-most used.hot-most h w i

  pub trips-fit : row.trips * blended row hot warm injection ≤ trips_limit * (10000 * trip_limit)
  unfolding blended
  trips-fit = mul-le-mul used.trips-most blend-fits
