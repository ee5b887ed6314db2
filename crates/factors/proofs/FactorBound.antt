-- Every computed factor encloses document 01's exact factor, for every n of 40 or more, any counts and every accepted season and row;
-- and so do its whole micrograms, which are at most `band_micrograms` apart.
-- Assumes nothing.
use mathlib.Core.Bool.{Bool, true, false}
use mathlib.Core.List.{List}
use Prim.Native.Nat.{ℕ, ◌+◌, ◌*◌, ◌^◌, ◌≤◌, ◌<◌}
use native.Mathlib.Omega.{arith}
use lib.Dec.{leb}
use Rattle.numbers.specs.Fraction.{Fraction, ◌≤ᶠ◌, ◌+ᶠ◌, whole, ◌/10^◌}
use Rattle.bounds.specs.Enclosure.{Within, WithinAll}
use Rattle.numbers.proofs.Order.{≈-sym}
use Rattle.bounds.proofs.Within.{widen, within-≈, +-within, within-≤-decimal, decimal-≤-within, all_map, all-map₂}
use Rattle.exact.specs.declared.Season.{Season}
use Rattle.exact.specs.declared.Row.{Row}
use Rattle.exact.specs.Day.{temperature}
use Rattle.exact.specs.Factors.{escape_over, open_vapour, Factor, F1, F2, F3, F4, F5, F6, F7, T1, T2, diurnal_factor}
use Rattle.exact.specs.Factors.{soak_permeation, running_permeation, car_factor, two_wheeler_factor, parking_factor, end_hour}
use Rattle.exact.specs.Factors.{duration, total, mean, factor}
use Rattle.sheet.specs.Range.{SeasonInRange}
use Rattle.marks.specs.Marks.{tenths}
use Rattle.marks.proofs.MarkTemperatures.{temperature-tenths, temperature-whole}
use Rattle.sheet.specs.Range.{RowInRange}
use Rattle.factors.specs.Units.{start_of, end_of, escape_over_units, open_units, diurnal_units, soak_units, running_units}
use Rattle.factors.specs.Units.{car_units, two_wheeler_units, factor_units, factor_error, low_micrograms}
use Rattle.factors.specs.Units.{high_micrograms}
use Rattle.factors.proofs.Mean.{mean-+}
use Rattle.factors.proofs.Losses.{raise_error, open_error, parking-escape-within, over-within, opened-within}
use Rattle.factors.proofs.Losses.{rate-mean, parking-permeation-within, hourly-within}

-- the mean of a sum from the means of its parts
sum-within : {u w v z : ℕ} {W : ℕ} (counts : List ℕ) (f g : ℕ → ℕ → Fraction) → WithinAll (2 ^ 28) u w (λ n. mean (f n) counts)
    → WithinAll (2 ^ 28) v z (λ n. mean (g n) counts) → w + z ≤ W
    → WithinAll (2 ^ 28) (u + v) W (λ n. mean (λ (cell : ℕ). f n cell +ᶠ g n cell) counts)
sum-within counts f g a b h =
    all-map₂ (λ n c d. within-≈ (≈-sym (mean-+ (f n) (g n) counts)) (widen (+-within c d) h)) a b

module _ {season : Season} {row : Row} (s : SeasonInRange season) (r : RowInRange season row) (counts : List ℕ) (p : 0 < total counts) where
  -- a value for each cell's parking
  abbrev mean_of : (ℕ → ℕ → ℕ → Fraction) → ℕ → Fraction
  mean_of x n = mean (λ (cell : ℕ). x n (end_hour cell) (duration cell)) counts

  -- factor 1
  diurnal-within : WithinAll (2 ^ 28) (diurnal_units season row counts) factor_error (mean_of (λ n. diurnal_factor n season row))
  unfolding diurnal_units diurnal_factor T1 start_of
  diurnal-within = sum-within counts _ _ (parking-escape-within s r counts p) (parking-permeation-within s r counts p) (omega arith)

  -- factor 2 of a car
  soak-within : WithinAll (2 ^ 28) (soak_units season row counts) 3 (mean_of (λ n. soak_permeation n season row))
  unfolding soak_units soak_permeation T1 start_of
  soak-within = rate-mean s r counts p start_of (whole 11) 110 (omega arith) (λ i. temperature-whole i s 11)

  -- factor 5 of a car
  running-within : WithinAll (2 ^ 28) (running_units season row counts) 74 (mean_of (λ n. running_permeation n season row))
  unfolding running_units running_permeation T2 end_of
  running-within =
      hourly-within s r counts p _ (omega arith) (rate-mean s r counts p end_of (whole 15) 150 (omega arith) (λ i. temperature-whole i s 15))

  -- escape over a raise of k tenths from the start or the end of the parking
  escape-tenths-within : (mark : ℕ → ℕ) (k : ℕ) → k ≤ 60
      → WithinAll (2 ^ 28) (escape_over_units season row counts mark (tenths k)) raise_error
      (λ n. mean (λ (cell : ℕ). escape_over n season row (temperature season (mark cell)) (k /10^ 1)) counts)
  escape-tenths-within mark k h = over-within s r counts p mark (k /10^ 1) k h (λ i. temperature-tenths i s k)

  -- the same of k whole degrees
  escape-whole-within : (mark : ℕ → ℕ) (k : ℕ) → k ≤ 6
      → WithinAll (2 ^ 28) (escape_over_units season row counts mark (tenths (10 * k))) raise_error
      (λ n. mean (λ (cell : ℕ). escape_over n season row (temperature season (mark cell)) (whole k)) counts)
  escape-whole-within mark k h = over-within s r counts p mark (whole k) (10 * k) (omega arith) (λ i. temperature-whole i s k)

  -- "plus without canister the vapour from T2 to T2 + 1 or T2 + 5"
  vapour-whole-within : (k : ℕ) → k ≤ 6
      → WithinAll (2 ^ 28) (open_units season row counts row.canister (tenths (10 * k))) open_error
      (λ n. mean (λ (cell : ℕ). open_vapour n season row row.canister (temperature season (end_of cell)) (whole k)) counts)
  vapour-whole-within k h = opened-within s r counts p (whole k) (10 * k) (omega arith) (λ i. temperature-whole i s k) row.canister

  -- the factors of a car
  car-within : (k : Factor) → WithinAll (2 ^ 28) (car_units season row counts k) factor_error (mean_of (λ n hour d. car_factor n season row hour d k))
  unfolding car_units car_factor T1 T2 start_of end_of
  car-within F1 = diurnal-within
  car-within F2 = all_map (λ n a. widen a (omega arith)) soak-within
  car-within F3 = sum-within counts _ _ (escape-tenths-within start_of 45 (omega arith)) soak-within (omega arith)
  car-within F4 = sum-within counts _ _ (escape-whole-within start_of 6 (omega arith)) soak-within (omega arith)
  car-within F5 = all_map (λ n a. widen a (omega arith)) running-within
  car-within F6 = sum-within counts _ _ running-within (vapour-whole-within 1 (omega arith)) (omega arith)
  car-within F7 = sum-within counts _ _ running-within (vapour-whole-within 5 (omega arith)) (omega arith)

  -- the factors of a two-wheeler
  two_wheeler-within : (k : Factor)
      → WithinAll (2 ^ 28) (two_wheeler_units season row counts k) factor_error (mean_of (λ n hour d. two_wheeler_factor n season row hour d k))
  unfolding two_wheeler_units two_wheeler_factor T1 T2 start_of end_of
  two_wheeler-within F1 = diurnal-within
  two_wheeler-within F2 = all_map (λ n a. widen a (omega arith)) (escape-tenths-within start_of 15 (omega arith))
  two_wheeler-within F3 = all_map (λ n a. widen a (omega arith)) (escape-tenths-within start_of 35 (omega arith))
  two_wheeler-within F4 = all_map (λ n a. widen a (omega arith)) (escape-tenths-within start_of 35 (omega arith))
  two_wheeler-within F5 = all_map (λ n a. widen a (omega arith)) (escape-whole-within end_of 1 (omega arith))
  two_wheeler-within F6 = all_map (λ n a. widen a (omega arith)) (escape-tenths-within end_of 25 (omega arith))
  two_wheeler-within F7 = all_map (λ n a. widen a (omega arith)) (escape-tenths-within end_of 25 (omega arith))

  -- each class
  class-within : (k : Factor) (two_wheeler : Bool)
      → WithinAll (2 ^ 28) (elim two_wheeler [ true ↦ two_wheeler_units season row counts k | false ↦ car_units season row counts k ]) factor_error
      (mean_of (λ n hour d. elim two_wheeler [ true ↦ two_wheeler_factor n season row hour d k | false ↦ car_factor n season row hour d k ]))
  class-within k true = two_wheeler-within k
  class-within k false = car-within k

-- factor_units ≤ 2²⁸·factor ≤ factor_units + factor_error
pub factor-within : (season : Season) (row : Row) (counts : List ℕ) → SeasonInRange season → RowInRange season row → 0 < total counts
    → (k : Factor) → WithinAll (2 ^ 28) (factor_units season row counts k) factor_error (λ n. factor n counts season row k)
unfolding factor_units factor parking_factor
factor-within season row counts s r p k = class-within s r counts p k (leb 5 row.class)

-- In micrograms.

-- micrograms that are at most an enclosed value
low-≤ : {units : ℕ} {x : Fraction} → Within (2 ^ 28) units factor_error x → low_micrograms units /10^ 6 ≤ᶠ x
unfolding low_micrograms
low-≤ {units} a = decimal-≤-within (low_micrograms units) 6 (omega arith) a (omega arith)

-- micrograms that are at least an enclosed value
≤-high : {units : ℕ} {x : Fraction} → Within (2 ^ 28) units factor_error x → x ≤ᶠ high_micrograms units /10^ 6
unfolding high_micrograms
≤-high {units} a = within-≤-decimal (high_micrograms units) 6 (omega arith) a (omega arith)

module _ (season : Season) (row : Row) (counts : List ℕ) (s : SeasonInRange season) (r : RowInRange season row) (p : 0 < total counts)
    (k : Factor) (n : ℕ) (n40 : 40 ≤ n)
  where
    -- the lower one is at most the exact factor
    pub low-≤-factor : low_micrograms (factor_units season row counts k) /10^ 6 ≤ᶠ factor n counts season row k
    low-≤-factor = low-≤ ((factor-within season row counts s r p k).at n n40)

    -- and the higher one at least
    pub factor-≤-high : factor n counts season row k ≤ᶠ high_micrograms (factor_units season row counts k) /10^ 6
    factor-≤-high = ≤-high ((factor-within season row counts s r p k).at n n40)

-- how far they can be apart
abbrev pub band_micrograms : ℕ
band_micrograms = 2

pub high-near-low : (units : ℕ) → high_micrograms units ≤ low_micrograms units + band_micrograms
unfolding low_micrograms high_micrograms
high-near-low units = omega arith

-- the lower one is at most the higher one
pub low-below-high : (units : ℕ) → low_micrograms units ≤ high_micrograms units
unfolding low_micrograms high_micrograms
low-below-high units = omega arith
