-- How large the computed values are, for every accepted season and row, so that nothing overflows.
-- Assumes nothing.
use Rattle.std.proofs.Common.{Option, Some, None}
use mathlib.Core.Bool.{Bool, true, false}
use mathlib.Core.List.{List}
use Prim.Native.Nat.{ℕ, ◌+◌, ◌*◌, ◌^◌, ◌/◌, ◌≤◌, ◌<◌, min}
use native.Mathlib.Omega.{arith}
use native.Mathlib.Nat.{mul-le-mul, div-le_of_le-mul, le_of_lt}
use lib.Dec.{leb}
use Rattle.numbers.specs.Fraction.{◌≤ᶠ◌, ◌/10^◌}
use Rattle.bounds.specs.Short.{short_exponent, short, line_exponent, reach}
use Rattle.bounds.proofs.Laws.{short-within, E-to-3}
use Rattle.bounds.proofs.ShortLine.{line-cut, held-most-0, held-most-3}
use Rattle.exact.specs.declared.Canister.{Canister}
use Rattle.exact.specs.declared.Season.{Season}
use Rattle.exact.specs.declared.Row.{Row}
use Rattle.exact.specs.Factors.{Factor, F1, F2, F3, F4, F5, F6, F7, end_hour, duration}
use Rattle.sheet.specs.Range.{SeasonInRange}
use Rattle.sheet.specs.Range.{mark_warmth}
use Rattle.marks.specs.Marks.{raise, tenths, rate}
use Rattle.marks.proofs.Most.{within-most}
use Rattle.sheet.proofs.Temperature.{warmth-most}
use Rattle.marks.proofs.Heat.{raise-most}
use Rattle.marks.proofs.Curve.{season-rise-most}
use Rattle.marks.proofs.Permeation.{rate-most, rates-most}
use Rattle.sheet.specs.Range.{RowInRange}
use Rattle.factors.specs.Means.{mean_units}
use Rattle.sheet.specs.Range.{halves}
use Rattle.factors.specs.Escape.{tenth_grams, risen_loss, break_units}
use Rattle.factors.specs.Units.{start_of, end_of, parking_rise, parking_rates, base_at, growth_at, vapour_units, through_units, escape_units}
use Rattle.factors.specs.Units.{escape_over_units, open_units, diurnal_units, soak_units, running_units, car_units, two_wheeler_units, factor_units}
use Rattle.factors.specs.Units.{high_micrograms}
use Rattle.factors.proofs.Gain.{gain-most}
use Rattle.factors.proofs.Starts.{start-below}
use Rattle.factors.proofs.Canister.{saturated, unsaturated, saturation-most, tenth_grams-within}
use Rattle.factors.proofs.Mean.{mean_units-most}
use Rattle.factors.proofs.Losses.{duration-most}

-- factor k is below so many grams: a diurnal loss, a soak or a trip
abbrev pub grams_limit : Factor → ℕ
grams_limit F1 = 2700
grams_limit F2 = 2500
grams_limit F3 = 2500
grams_limit F4 = 2500
grams_limit F5 = 2500
grams_limit F6 = 2500
grams_limit F7 = 2500

-- held exponents up to 3
exponent-≤ : (x : ℕ) → x ≤ 19 * 2 ^ 53 → short_exponent x ≤ᶠ 3 /10^ 0
unfolding ◌/10^◌
exponent-≤ x h = omega arith

-- E(3) ≤ 20.1
short-3 : (x : ℕ) → x ≤ 19 * 2 ^ 53 → short x ≤ 21 * 2 ^ 36
short-3 x h =
    let n40 : 40 ≤ 40 = omega arith in
    omega (arith, within-most 201 1 ((short-within x (omega arith)).at 40 n40) (E-to-3 40 n40 (exponent-≤ x h)))

-- what breaks through is at most the vapour and the curve's end, from a load of at most m_sat
break-most : (A K σ error p g rise : ℕ) → p ≤ σ → line_exponent A K σ ≤ 19 * 2 ^ 53
    → break_units A K σ error p g rise ≤ 21 * 2 ^ 40 + g * rise / 2 ^ 40
unfolding break_units risen_loss
break-most A K σ error p g rise h e =
    omega (arith, short-3 (min (line_exponent A K p + reach K g * rise / 2 ^ 23) (line_exponent A K σ)) (omega arith))

module _ {season : Season} {row : Row} (s : SeasonInRange season) (r : RowInRange season row) where
  -- m_sat of a canister, in units of 2⁻⁴⁰ g
  pub saturation-size : 0 < halves row.canister → tenth_grams row.saturation < 2 ^ 49
  unfolding tenth_grams
  saturation-size h = omega (arith, saturation-most s r h)

  -- the exponent of a loss at m_sat is at most 3, at every mark
  pub full-exponent-most : (i : ℕ) → line_exponent (base_at season row i) (growth_at season row i) (tenth_grams row.saturation) ≤ 19 * 2 ^ 53
  full-exponent-most i = held-most-3 (line-cut _ _ (tenth_grams-within row.saturation)) (saturated s r i)

  -- with a mileage it is at most 0
  pub driven-exponent-most : (i : ℕ) → 1 ≤ row.mileage
      → line_exponent (base_at season row i) (growth_at season row i) (tenth_grams row.saturation) ≤ 16 * 2 ^ 53
  driven-exponent-most i km = held-most-0 (line-cut _ _ (tenth_grams-within row.saturation)) (unsaturated s r i km)

  -- 36 g for a rise of 1
  vapour_units-most : {rise : ℕ} (M : ℕ) → rise ≤ M → vapour_units season row rise ≤ 36 * M
  unfolding vapour_units
  vapour_units-most {rise} M h = div-le_of_le-mul (2 ^ 40) (omega (arith, mul-le-mul (gain-most s r) h))

  -- what breaks through is at most the vapour and 21 g
  through_units-most : (i rise : ℕ) → through_units season row i rise ≤ 21 * 2 ^ 40 + vapour_units season row rise
  unfolding through_units vapour_units
  through_units-most i rise = break-most _ _ _ _ _ _ _ (start-below row r.load-most _ _) (full-exponent-most i)

  -- the rise over a cell's parking
  pub parking-rise-most : (cell : ℕ) → parking_rise season cell ≤ 72 * 2 ^ 40
  unfolding parking_rise
  parking-rise-most cell = omega (arith, season-rise-most s (end_hour cell) (duration cell) (duration-most cell))

  -- the rise over a raise of at most 6 °C from mark i
  pub raise-rise-most : (k i : ℕ) → k ≤ 60 → raise (tenths k) (mark_warmth season i) ≤ 56 * 2 ^ 40
  raise-rise-most k i h = raise-most (tenths k) (mark_warmth season i) (omega arith) (warmth-most i s)

  -- permeation over a cell's parking: half a gram for each of 24 half-hours
  parking-permeation-most : (cell : ℕ) → parking_rates season cell / 2 ≤ 12 * 2 ^ 40
  unfolding parking_rates
  parking-permeation-most cell =
      omega (
        arith,
        rates-most season.vp (mark_warmth season) s.vp-most (λ i. omega (arith, warmth-most i s))
            (end_hour cell) (duration cell),
        duration-most cell,
      )

  -- permeation per hour up to 15 °C above mark i
  pub raised-rate-most : (k i : ℕ) → k ≤ 150 → rate season.vp (mark_warmth season i + tenths k) ≤ 2 ^ 40
  raised-rate-most k i h = le_of_lt (rate-most season.vp (mark_warmth season i + tenths k) s.vp-most (omega (arith, warmth-most i s)))

  module _ (counts : List ℕ) where
    -- the mean of what breaks through, of a rise of at most R
    through-most : (R : ℕ) (mark rise : ℕ → ℕ) → ((cell : ℕ) → rise cell ≤ R * 2 ^ 40)
        → mean_units counts (λ (cell : ℕ). through_units season row (mark cell) (rise cell)) ≤ (36 * R + 21) * 2 ^ 28
    through-most R mark rise h =
        mean_units-most counts _ ((36 * R + 21) * 2 ^ 28)
        (λ cell. omega (arith, through_units-most (mark cell) (rise cell), vapour_units-most (R * 2 ^ 40) (h cell)))

    -- the mean escape of a rise of at most R
    escape-most : (R : ℕ) (mark rise : ℕ → ℕ) → ((cell : ℕ) → rise cell ≤ R * 2 ^ 40) → (c : Option Canister)
        → escape_units season row counts c mark rise ≤ (36 * R + 21) * 2 ^ 28
    unfolding escape_units
    escape-most R mark rise h None =
        omega (arith, vapour_units-most (R * 2 ^ 28) (mean_units-most counts rise (R * 2 ^ 28) (λ cell. omega (arith, h cell))))
    escape-most R mark rise h (Some c) = through-most R mark rise h

    -- factor 1
    diurnal-most : diurnal_units season row counts ≤ 2625 * 2 ^ 28
    unfolding diurnal_units
    diurnal-most =
        omega (
          arith,
          escape-most 72 start_of (parking_rise season) parking-rise-most row.canister,
          mean_units-most counts (λ (cell : ℕ). parking_rates season cell / 2) (12 * 2 ^ 28)
              (λ cell. omega (arith, parking-permeation-most cell)),
        )

    -- the mean escape over a raise
    over-most : (mark : ℕ → ℕ) (k : ℕ) → k ≤ 60 → escape_over_units season row counts mark (tenths k) ≤ 2037 * 2 ^ 28
    unfolding escape_over_units
    over-most mark k h =
        escape-most 56 mark (λ (cell : ℕ). raise (tenths k) (mark_warmth season (mark cell))) (λ cell. raise-rise-most k (mark cell) h) row.canister

    -- the mean permeation per hour
    rate-mean-most : (mark : ℕ → ℕ) (k : ℕ) → k ≤ 150
        → mean_units counts (λ (cell : ℕ). rate season.vp (mark_warmth season (mark cell) + tenths k)) ≤ 2 ^ 28
    rate-mean-most mark k h = mean_units-most counts _ (2 ^ 28) (λ cell. omega (arith, raised-rate-most k (mark cell) h))

    -- the mean vapour over a raise, without canister
    open-most : (k : ℕ) → k ≤ 60 → (c : Option Canister) → open_units season row counts c (tenths k) ≤ 2016 * 2 ^ 28
    unfolding open_units
    open-most k h None =
        vapour_units-most (56 * 2 ^ 28)
        (mean_units-most counts (λ (cell : ℕ). raise (tenths k) (mark_warmth season (end_of cell))) (56 * 2 ^ 28)
        (λ cell. omega (arith, raise-rise-most k (end_of cell) h)))
    open-most k h (Some c) = omega arith

    -- factor 2 of a car
    soak-most : soak_units season row counts ≤ 2 ^ 28
    unfolding soak_units
    soak-most = rate-mean-most start_of 110 (omega arith)

    -- factor 5 of a car: 24 hours a trip
    running-most : running_units season row counts ≤ 24 * 2 ^ 28
    unfolding running_units
    running-most = div-le_of_le-mul 60 (omega (arith, mul-le-mul r.minutes-most (rate-mean-most end_of 150 (omega arith))))

    -- the factors of a car
    car-most : (k : Factor) → car_units season row counts k + 2 ^ 28 ≤ grams_limit k * 2 ^ 28
    unfolding car_units
    car-most F1 = omega (arith, diurnal-most)
    car-most F2 = omega (arith, soak-most)
    car-most F3 = omega (arith, over-most start_of 45 (omega arith), soak-most)
    car-most F4 = omega (arith, over-most start_of 60 (omega arith), soak-most)
    car-most F5 = omega (arith, running-most)
    car-most F6 = omega (arith, open-most 10 (omega arith) row.canister, running-most)
    car-most F7 = omega (arith, open-most 50 (omega arith) row.canister, running-most)

    -- the factors of a two-wheeler
    two_wheeler-most : (k : Factor) → two_wheeler_units season row counts k + 2 ^ 28 ≤ grams_limit k * 2 ^ 28
    unfolding two_wheeler_units
    two_wheeler-most F1 = omega (arith, diurnal-most)
    two_wheeler-most F2 = omega (arith, over-most start_of 15 (omega arith))
    two_wheeler-most F3 = omega (arith, over-most start_of 35 (omega arith))
    two_wheeler-most F4 = omega (arith, over-most start_of 35 (omega arith))
    two_wheeler-most F5 = omega (arith, over-most end_of 10 (omega arith))
    two_wheeler-most F6 = omega (arith, over-most end_of 25 (omega arith))
    two_wheeler-most F7 = omega (arith, over-most end_of 25 (omega arith))

    -- each class
    class-most : (k : Factor) (two_wheeler : Bool)
        → (elim two_wheeler [ true ↦ two_wheeler_units season row counts k | false ↦ car_units season row counts k ]) + 2 ^ 28
        ≤ grams_limit k * 2 ^ 28
    class-most k true = two_wheeler-most k
    class-most k false = car-most k

    -- factor k in units of 2⁻²⁸ g, with a gram to spare
    pub factor_units-most : (k : Factor) → factor_units season row counts k + 2 ^ 28 ≤ grams_limit k * 2 ^ 28
    unfolding factor_units
    factor_units-most k = class-most k (leb 5 row.class)

    -- and in micrograms
    pub high_micrograms-most : (k : Factor) → high_micrograms (factor_units season row counts k) ≤ grams_limit k * 10 ^ 6
    unfolding high_micrograms
    high_micrograms-most k = omega (arith, factor_units-most k)
