-- The seven emission factors, "each a weighted mean over the 576 cells". Definitions only.
use Rattle.std.specs.Prelude.{true, false, Option, Some, None, List, [], ◌∷◌, map, ◌++◌, ℕ, suc, ◌+◌, ◌*◌, ◌%◌, ◌/◌, leb, eqb}
use Rattle.numbers.specs.Fraction.{Fraction, ◌+ᶠ◌, ◌*ᶠ◌, whole, ◌/10^◌, ◌over◌, ◌times◌}
use Rattle.exact.specs.declared.Canister.{Canister}
use Rattle.exact.specs.declared.Season.{Season}
use Rattle.exact.specs.declared.Row.{Row}
use Rattle.exact.specs.Day.{temperature, start_mark}
use Rattle.exact.specs.Vapour.{vapour, parking_vapour}
use Rattle.exact.specs.Permeation.{permeation, parking_permeation}
use Rattle.exact.specs.Canister as canister
use Rattle.exact.specs.Mileage.{starting_load}

-- "Fk for factor k"
pub data Factor : Type 0 where
  F1 F2 F3 F4 F5 F6 F7 : Factor

module _ (n : ℕ) (season : Season) (row : Row) where
  -- "vp in kPa and tank in litres in every formula"
  unfoldable pub vp : Fraction
  vp = season.vp /10^ 1

  -- vapour from T to U, in this row's tank
  unfoldable pub row_vapour : Fraction → Fraction → Fraction
  row_vapour T U = vapour n vp (row.fill /10^ 2) (row.tank /10^ 1) T U

  -- the row's load at parking start: a mileage of "0 keeps the written load"; the starting load of any other "is found for each T of
  -- a and b, so in running for T2"
  unfoldable pub row_load : Fraction → Fraction
  row_load T =
      elim (eqb row.mileage 0) [
        | true ↦ row.load /10^ 1
        | false ↦ starting_load n vp (canister.size row.canister) T row.mileage (row.saturation /10^ 1)
      ]

  -- escape of vapour v, "T the temperature from which the escape starts", "m1 the row's load at parking start, in running too"
  unfoldable pub row_escape : Fraction → Fraction → Fraction
  row_escape T v = canister.escape n vp (row.saturation /10^ 1) (row_load T) T row.canister v

  -- what escapes of the vapour from T to T + rise, as in "escape from T1 to T1 + 4.5" and "escape from T2 to T2 + 1"
  unfoldable pub escape_over : Fraction → Fraction → Fraction
  escape_over T rise = row_escape T (row_vapour T (T +ᶠ rise))

  -- "without canister the vapour from T2 to T2 + 1 or T2 + 5", here from T to T + rise
  unfoldable pub open_vapour : Option Canister → Fraction → Fraction → Fraction
  open_vapour None T rise = row_vapour T (T +ᶠ rise)
  open_vapour (Some c) T rise = whole 0

  -- "hours per trip"
  unfoldable pub hours : Fraction
  hours = whole row.minutes over 60

  -- a parking that ends at an hour, 1 to 24, after d half-hours, 1 to 24
  module _ (hour d : ℕ) where
    -- "T1 and T2 are the temperatures at its start and end."
    unfoldable pub T1 : Fraction
    T1 = temperature season (start_mark hour d)

    unfoldable pub T2 : Fraction
    T2 = temperature season (start_mark hour 0)

    -- "Diurnal: escape of the parking's vapour, plus its permeation."
    unfoldable pub diurnal_factor : Fraction
    diurnal_factor =
        row_escape T1 (parking_vapour n vp (row.fill /10^ 2) (row.tank /10^ 1) (temperature season) hour d) +ᶠ
        parking_permeation n vp (temperature season) hour d

    -- "Soak, injection: hourly permeation at T1 + 11, taken as grams per parking."
    unfoldable pub soak_permeation : Fraction
    soak_permeation = permeation n vp (T1 +ᶠ whole 11)

    -- "Running, injection: hours per trip times permeation at T2 + 15."
    unfoldable pub running_permeation : Fraction
    running_permeation = hours *ᶠ permeation n vp (T2 +ᶠ whole 15)

    -- "Soak, carburettor, warm and hot: escape from T1 to T1 + 4.5 or T1 + 6, plus factor 2."
    -- "Running, carburettor, warm and hot: factor 5, plus without canister the vapour from T2 to T2 + 1 or T2 + 5."
    unfoldable pub car_factor : Factor → Fraction
    car_factor F1 = diurnal_factor
    car_factor F2 = soak_permeation
    car_factor F3 = escape_over T1 (45 /10^ 1) +ᶠ soak_permeation
    car_factor F4 = escape_over T1 (whole 6) +ᶠ soak_permeation
    car_factor F5 = running_permeation
    car_factor F6 = running_permeation +ᶠ open_vapour row.canister T2 (whole 1)
    car_factor F7 = running_permeation +ᶠ open_vapour row.canister T2 (whole 5)

    -- "Two-wheelers (classes 5 to 9) differ: factor 2 is escape from T1 to T1 + 1.5, factors 3 and 4 to T1 + 3.5;
    -- factor 5 is escape from T2 to T2 + 1, factors 6 and 7 to T2 + 2.5; no other factor is added and no hours are multiplied in."
    unfoldable pub two_wheeler_factor : Factor → Fraction
    two_wheeler_factor F1 = diurnal_factor
    two_wheeler_factor F2 = escape_over T1 (15 /10^ 1)
    two_wheeler_factor F3 = escape_over T1 (35 /10^ 1)
    two_wheeler_factor F4 = escape_over T1 (35 /10^ 1)
    two_wheeler_factor F5 = escape_over T2 (whole 1)
    two_wheeler_factor F6 = escape_over T2 (25 /10^ 1)
    two_wheeler_factor F7 = escape_over T2 (25 /10^ 1)

    unfoldable pub parking_factor : Factor → Fraction
    parking_factor k = elim (leb 5 row.class) [ true ↦ two_wheeler_factor k | false ↦ car_factor k ]

-- The cells are counted from 0, end hour 1 first, its 24 durations in a row.
unfoldable pub end_hour : ℕ → ℕ
end_hour cell = cell / 24 + 1

-- in half-hours: "durations 0.5, 1, .. 12 h"
unfoldable pub duration : ℕ → ℕ
duration cell = cell % 24 + 1

unfoldable pub total : List ℕ → ℕ
total [] = 0
total (count ∷ counts) = count + total counts

-- each cell's value times its count, summed, cells counted from the given one on
unfoldable pub weighted_sum : (ℕ → Fraction) → ℕ → List ℕ → Fraction
weighted_sum value cell [] = whole 0
weighted_sum value cell (count ∷ counts) = count times value cell +ᶠ weighted_sum value (suc cell) counts

-- the mean in which a cell weighs its count over the sum of the counts
unfoldable pub mean : (ℕ → Fraction) → List ℕ → Fraction
mean value counts = weighted_sum value 0 counts over total counts

-- version 1: "With sums P and Q, the cell of counts j and q weighs j·q/(P·Q)": the products, whose sum is P·Q
unfoldable pub products : List ℕ → List ℕ → List ℕ
products durations [] = []
products durations (q ∷ hours) = map (λ (j : ℕ). j * q) durations ++ products durations hours

-- factor k of a season and row, over 576 counts
unfoldable pub factor : ℕ → List ℕ → Season → Row → Factor → Fraction
factor n counts season row k = mean (λ (cell : ℕ). parking_factor n season row (end_hour cell) (duration cell) k) counts
