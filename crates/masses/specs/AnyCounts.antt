-- Request One: "The enclosure is shown over any cell weights, so both forms share it." What is stated of a season and a row for any counts of the
-- cells, whether these come from a grid, from two lists or from nowhere in a sheet. Definitions only.
use Rattle.std.specs.Prelude.{List, [], ◌∷◌, ℕ, ◌+◌, ◌≤◌, ◌<◌}
use Rattle.numbers.specs.Fraction.{◌≤ᶠ◌, ◌/10^◌}
use Rattle.numbers.specs.Lists.{at}
use Rattle.exact.specs.declared.Season.{Season}
use Rattle.exact.specs.declared.Row.{Row}
use Rattle.exact.specs.Factors.{Factor, total, factor}
use Rattle.exact.specs.Masses.{diurnal, soak, running}
use Rattle.sheet.specs.Range.{SeasonInRange, RowInRange}
use Rattle.factors.specs.Units.{factor_units, low_micrograms, high_micrograms}
use Rattle.masses.specs.Figures.{row_figures}
use Rattle.masses.specs.Bands.{MassBand}

-- a statement holds of each season
abbrev pub Every : (Season → Type 0) → List Season → Type 0
Every P [] = Unit
Every P (season ∷ seasons) = P season × Every P seasons

-- the two shares of a row are at most all of it
pub record Shares (row : Row) : Type 0 where
  pub carburettor-most : row.carburettor ≤ 100
  pub hot-most : row.hot ≤ 100

-- A season and a row whose values passed the checks of a sheet: temperatures, pressure, fill, tank, load, exponent, mileage.
pub record InRange (row : Row) (season : Season) : Type 0 where
  pub season-in : SeasonInRange season
  pub row_in : RowInRange season row

-- every factor of a season and row lies between its two figures in micrograms
pub record Enclosed (counts : List ℕ) (season : Season) (row : Row) : Type 0 where
  pub above : (k : Factor) (n : ℕ) → 40 ≤ n → low_micrograms (factor_units season row counts k) /10^ 6 ≤ᶠ factor n counts season row k
  pub below : (k : Factor) (n : ℕ) → 40 ≤ n → factor n counts season row k ≤ᶠ high_micrograms (factor_units season row counts k) /10^ 6

-- "each a weighted mean over the 576 cells": for any counts whose sum is positive, and for their list of any length, every factor is enclosed,
-- and "low and high are at most 10 micrograms apart"
abbrev pub FactorsTheorem : Type 0
FactorsTheorem = (counts : List ℕ) → 0 < total counts → (season : Season) (row : Row) → InRange row season
    → Enclosed counts season row
    × ((k : Factor) → high_micrograms (factor_units season row counts k) ≤ low_micrograms (factor_units season row counts k) + 10)

-- a row's six words, "diurnal, soak, running, each low then high", hold its exact masses for these counts
pub record RowBands (counts : List ℕ) (seasons : List Season) (row : Row) (words : List ℕ) : Type 0 where
  pub diurnal-band : MassBand counts seasons row diurnal (at words 0) (at words 1)
  pub soak-band : MassBand counts seasons row soak (at words 2) (at words 3)
  pub running-band : MassBand counts seasons row running (at words 4) (at words 5)

-- for any counts whose sum is positive the computed words hold the exact masses, in any list of seasons
abbrev pub MassesTheorem : Type 0
MassesTheorem = (counts : List ℕ) → 0 < total counts → (seasons : List Season) (row : Row) → Shares row
    → Every (InRange row) seasons → RowBands counts seasons row (row_figures counts seasons row)
