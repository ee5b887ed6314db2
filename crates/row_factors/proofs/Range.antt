-- The seven factors of a row in a season are within their limits.
use mathlib.Core.List.{List}
use mathlib.Core.Path.{refl}
use Prim.Native.Nat.{ℕ, suc, zero, ◌*◌, ◌^◌, ◌≤◌, ◌<◌}
use native.Mathlib.Omega.{arith}
use lib.ListN.{get_or}
use Rattle.exact.specs.declared.Season.{Season}
use Rattle.exact.specs.declared.Row.{Row}
use Rattle.exact.specs.Factors.{Factor, F1, F2, F3, F4, F5, F6, F7}
use Rattle.sheet.specs.Range.{SeasonInRange, RowInRange}
use Rattle.factors.specs.Units.{factor_units, high_micrograms}
use Rattle.factors.proofs.Sizes.{grams_limit, high_micrograms-most}
use Rattle.row_factors.specs.Seven.{seven_units}
use Rattle.row_factors.specs.Units.{trip_limit, UnitsInRange}

-- the seven factors are within their limits
pub units-in-range : {season : Season} {row : Row} → SeasonInRange season → RowInRange season row → (counts : List ℕ)
    → UnitsInRange (seven_units season row counts)
unfolding seven_units high_micrograms
units-in-range {season} {row} in-season in_row counts = record { seven = refl; diurnal-most = most F1; trip-most = go }
  where
    most : (k : Factor) → high_micrograms (factor_units season row counts k) ≤ grams_limit k * 10 ^ 6
    most = high_micrograms-most in-season in_row counts

    go : (k : ℕ) → high_micrograms (get_or (seven_units season row counts) (suc k) 0) ≤ trip_limit
    go zero = most F2
    go (suc zero) = most F3
    go (suc (suc zero)) = most F4
    go (suc (suc (suc zero))) = most F5
    go (suc (suc (suc (suc zero)))) = most F6
    go (suc (suc (suc (suc (suc zero))))) = most F7
    go (suc (suc (suc (suc (suc (suc k)))))) = omega arith

-- every factor can be turned into micrograms
pub units_fit : {units : List ℕ} → UnitsInRange units → (k : ℕ) → get_or units k 0 < 2 ^ 44
unfolding high_micrograms
units_fit h zero = omega (arith, h.diurnal-most)
units_fit h (suc k) = omega (arith, h.trip-most k)
