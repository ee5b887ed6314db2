-- The means that the factors are made of: escape over a parking, escape over a raise of the temperature, and permeation.
-- Assumes nothing.
use Rattle.std.proofs.Common.{Option, Some, None}
use mathlib.Core.Bool.{Bool, true, false}
use mathlib.Core.Path.{refl}
use mathlib.Core.List.{List}
use Prim.Native.Nat.{ℕ, ◌+◌, ◌*◌, ◌^◌, ◌/◌, ◌≤◌, ◌<◌}
use native.Mathlib.Omega.{arith}
use native.Mathlib.Nat.{mul-le-mul}
use Rattle.numbers.specs.Fraction.{Fraction, ◌≈ᶠ◌, ◌+ᶠ◌, ◌-ᶠ◌, ◌*ᶠ◌, whole, ◌/10^◌, ◌over◌}
use Rattle.bounds.specs.Series.{E}
use Rattle.bounds.specs.Enclosure.{WithinAll}
use Rattle.bounds.specs.Power.{degrees}
use Rattle.numbers.proofs.Order.{≈-refl, ≈-sym, ≈-trans, *-cong, sub-cong, ratio}
use Rattle.bounds.proofs.Laws.{E-cong}
use Rattle.bounds.proofs.Within.{widen, weaken, within-≈, whole-within, scaled-within, all_map, all-constant}
use Rattle.exact.specs.declared.Canister.{Canister}
use Rattle.exact.specs.declared.Season.{Season}
use Rattle.exact.specs.declared.Row.{Row}
use Rattle.exact.specs.Day.{temperature}
use Rattle.exact.specs.Rise.{rises}
use Rattle.exact.specs.Vapour.{vapour, parking_vapour}
use Rattle.exact.specs.Permeation.{permeation, parking_permeation}
use Rattle.exact.specs.Factors.{vp, row_vapour, row_escape, escape_over, open_vapour, hours, end_hour, duration, total, mean}
use Rattle.sheet.specs.Range.{SeasonInRange}
use Rattle.sheet.specs.Range.{mark_warmth}
use Rattle.marks.specs.Marks.{raise, tenths, rate, rise_error, raised_error}
use Rattle.sheet.proofs.Temperature.{warmth-most, temperature-is}
use Rattle.marks.proofs.Heat.{raise-within, raise-most}
use Rattle.marks.proofs.Rise.{rises-cong, vapour-rises}
use Rattle.marks.proofs.Curve.{season-rise-within, season-rise-most}
use Rattle.marks.proofs.Permeation.{rate_error, permeation-cong, parking_permeation-cong, rate-within, permeation-within}
use Rattle.sheet.specs.Range.{RowInRange}
use Rattle.factors.specs.Means.{mean_units}
use Rattle.factors.specs.Units.{start_of, end_of, parking_rise, parking_rates, escape_units, escape_over_units, open_units}
use Rattle.factors.proofs.Gain.{exact_gain}
use Rattle.factors.proofs.Mean.{mean-*, mean-zero, mean-within}
use Rattle.factors.proofs.Canister.{through_width}
use Rattle.factors.proofs.Escape.{open-within, escape-within}

-- a parking lasts 24 half-hours at most
pub duration-most : (cell : ℕ) → duration cell ≤ 24
unfolding duration
duration-most cell = omega arith

-- how far the mean of what escapes can be above the computed one, in units of 2⁻²⁸ g: in a parking, over a raise, and over one without canister
abbrev pub parking_error : ℕ
parking_error = 149

abbrev pub raise_error : ℕ
raise_error = 129

abbrev pub open_error : ℕ
open_error = 114

-- nothing, at every cell
nothing : (counts : List ℕ) → WithinAll (2 ^ 28) 0 open_error (λ n. mean (λ (cell : ℕ). whole 0) counts)
nothing counts = all-constant (within-≈ (≈-sym (mean-zero counts)) (weaken (whole-within (2 ^ 28) 0) (omega arith) (omega arith)))

hour-pos : 0 < 60
hour-pos = omega arith

-- minutes per trip over 60
hours-is : (n : ℕ) (season : Season) (row : Row) → hours n season row ≈ᶠ ratio row.minutes 60 hour-pos
unfolding hours whole ◌over◌ ratio
hours-is n season row = omega arith

-- the width of the mean of what breaks through
parking-fits : (by_mileage : Bool)
    → through_width by_mileage 72 (2 * rise_error) / 2 ^ 12 + 3 ≤ parking_error
parking-fits true = omega arith
parking-fits false = omega arith

raise-fits : (by_mileage : Bool)
    → through_width by_mileage 56 (2 * raised_error) / 2 ^ 12 + 3 ≤ raise_error
raise-fits true = omega arith
raise-fits false = omega arith

module _ {season : Season} {row : Row} (s : SeasonInRange season) (r : RowInRange season row) (counts : List ℕ) (p : 0 < total counts) where
  -- "escape of the parking's vapour"
  pub parking-escape-within :
      WithinAll (2 ^ 28)
      (escape_units season row counts row.canister start_of (parking_rise season)) parking_error
      (λ n.
      mean
      (λ (cell : ℕ).
      row_escape n season row (temperature season (start_of cell))
      (parking_vapour n (vp n season row) (row.fill /10^ 2) (row.tank /10^ 1) (temperature season) (end_hour cell) (duration cell))) counts)
  unfolding row_escape vp parking_rise
  parking-escape-within =
      escape-within s r counts p 72 start_of (parking_rise season)
      (λ (cell : ℕ). temperature season (start_of cell)) (λ n cell. rises n (λ i. degrees (mark_warmth season i)) (end_hour cell) (duration cell))
      (λ n cell. parking_vapour n (season.vp /10^ 1) (row.fill /10^ 2) (row.tank /10^ 1) (temperature season) (end_hour cell) (duration cell))
      (λ cell. temperature-is (start_of cell) s)
      (λ cell. omega (arith, season-rise-most s (end_hour cell) (duration cell) (duration-most cell)))
      (λ cell. season-rise-within s (end_hour cell) (duration cell) (duration-most cell))
      (λ n cell.
      ≈-trans (vapour-rises n (season.vp /10^ 1) (row.fill /10^ 2) (row.tank /10^ 1) (temperature season) (end_hour cell) (duration cell))
      (*-cong (≈-refl _) (rises-cong n (end_hour cell) (duration cell) (λ i. temperature-is i s))))
      row.canister refl parking_error (omega arith) parking-fits

  -- a raise of the temperature by k tenths, at most 6 °C, from a mark that each cell names
  module _ (mark : ℕ → ℕ) (amount : Fraction) (k : ℕ) (k-most : k ≤ 60)
      (raised : (i : ℕ) → temperature season i +ᶠ amount ≈ᶠ degrees (mark_warmth season i + tenths k))
    where
      abbrev exact_rise : ℕ → ℕ → Fraction
      exact_rise n cell =
          E n (716 /10^ 4 *ᶠ degrees (mark_warmth season (mark cell) + tenths k)) -ᶠ E n (716 /10^ 4 *ᶠ degrees (mark_warmth season (mark cell)))

      raise-known : (cell : ℕ) → WithinAll (2 ^ 40) (raise (tenths k) (mark_warmth season (mark cell))) (2 * raised_error) (λ n. exact_rise n cell)
      raise-known cell = raise-within (tenths k) (mark_warmth season (mark cell)) (omega arith) (warmth-most (mark cell) s)

      raise-small : (cell : ℕ) → raise (tenths k) (mark_warmth season (mark cell)) ≤ 56 * 2 ^ 40
      raise-small cell = raise-most (tenths k) (mark_warmth season (mark cell)) (omega arith) (warmth-most (mark cell) s)

      -- the vapour from T to T + k/10 is the gain times the rise
      raise-driven : (n cell : ℕ)
          → row_vapour n season row (temperature season (mark cell)) (temperature season (mark cell) +ᶠ amount)
          ≈ᶠ exact_gain season row n *ᶠ exact_rise n cell
      unfolding row_vapour vapour vp
      raise-driven n cell =
          *-cong (≈-refl _)
          (sub-cong (E-cong n (*-cong (≈-refl _) (raised (mark cell)))) (E-cong n (*-cong (≈-refl _) (temperature-is (mark cell) s))))

      -- "escape from T1 to T1 + 4.5", and the other raises
      pub over-within :
          WithinAll (2 ^ 28) (escape_over_units season row counts mark (tenths k)) raise_error
          (λ n. mean (λ (cell : ℕ). escape_over n season row (temperature season (mark cell)) amount) counts)
      unfolding escape_over_units escape_over row_escape vp
      over-within =
          escape-within s r counts p 56 mark (λ (cell : ℕ). raise (tenths k) (mark_warmth season (mark cell)))
          (λ (cell : ℕ). temperature season (mark cell))
          exact_rise (λ n cell. row_vapour n season row (temperature season (mark cell)) (temperature season (mark cell) +ᶠ amount))
          (λ cell. temperature-is (mark cell) s) raise-small raise-known raise-driven row.canister refl raise_error (omega arith) raise-fits

  -- "without canister the vapour from T2 to T2 + 1 or T2 + 5", from the end of the parking
  pub opened-within : (amount : Fraction) (k : ℕ) → k ≤ 60 → ((i : ℕ) → temperature season i +ᶠ amount ≈ᶠ degrees (mark_warmth season i + tenths k))
      → (c : Option Canister)
      → WithinAll (2 ^ 28) (open_units season row counts c (tenths k)) open_error
      (λ n. mean (λ (cell : ℕ). open_vapour n season row c (temperature season (end_of cell)) amount) counts)
  unfolding open_units open_vapour
  opened-within amount k h raised None =
      all_map (λ n a. widen a (omega arith))
      (open-within s r counts p 56 end_of (λ (cell : ℕ). raise (tenths k) (mark_warmth season (end_of cell)))
      (λ (cell : ℕ). temperature season (end_of cell))
      (exact_rise end_of amount k h raised)
      (λ n cell. row_vapour n season row (temperature season (end_of cell))
      (temperature season (end_of cell) +ᶠ amount))
      (λ cell. temperature-is (end_of cell) s) (raise-small end_of amount k h raised) (raise-known end_of amount k h raised)
      (raise-driven end_of amount k h raised))
  opened-within amount k h raised (Some c) = nothing counts

  -- "permeation at T1 + 11", "permeation at T2 + 15", at most 15 °C above the mark that each cell names
  pub rate-mean : (mark : ℕ → ℕ) (amount : Fraction) (k : ℕ) → k ≤ 150
      → ((i : ℕ) → temperature season i +ᶠ amount ≈ᶠ degrees (mark_warmth season i + tenths k))
      → WithinAll (2 ^ 28) (mean_units counts (λ (cell : ℕ). rate season.vp (mark_warmth season (mark cell) + tenths k))) 3
      (λ n. mean (λ (cell : ℕ). permeation n (vp n season row) (temperature season (mark cell) +ᶠ amount)) counts)
  unfolding vp
  rate-mean mark amount k h raised =
      all_map (λ n a. widen a (omega arith))
      (mean-within counts p _ (λ n cell. permeation n (season.vp /10^ 1) (temperature season (mark cell) +ᶠ amount))
      (λ cell.
      all_map (λ n a. within-≈ (permeation-cong n (season.vp /10^ 1) (≈-sym (raised (mark cell)))) a)
      (rate-within season.vp (mark_warmth season (mark cell) + tenths k) s.vp-most (omega (arith, warmth-most (mark cell) s)))))

  -- "its permeation" of a parking
  pub parking-permeation-within :
      WithinAll (2 ^ 28)
      (mean_units counts (λ (cell : ℕ). parking_rates season cell / 2)) 4
      (λ n. mean (λ (cell : ℕ). parking_permeation n (vp n season row) (temperature season) (end_hour cell) (duration cell)) counts)
  unfolding vp parking_rates
  parking-permeation-within =
      all_map (λ n a. widen a (omega arith))
      (mean-within counts p _ (λ n cell. parking_permeation n (season.vp /10^ 1) (temperature season) (end_hour cell) (duration cell))
      (λ cell.
      all_map
      (λ n a.
      within-≈ (parking_permeation-cong n (season.vp /10^ 1) (end_hour cell) (duration cell) (λ i. ≈-sym (temperature-is i s)))
      (widen {v = 24 * rate_error / 2 + 2} a (omega (arith, duration-most cell))))
      (permeation-within season.vp (mark_warmth season) s.vp-most (λ i. omega (arith, warmth-most i s)) (end_hour cell) (duration cell))))

  -- "hours per trip times" a mean
  pub hourly-within : {u w : ℕ} (x : ℕ → ℕ → Fraction) → w ≤ 3 → WithinAll (2 ^ 28) u w (λ n. mean (x n) counts)
      → WithinAll (2 ^ 28) (row.minutes * u / 60) 74 (λ n. mean (λ (cell : ℕ). hours n season row *ᶠ x n cell) counts)
  hourly-within {u} {w} x h =
      all_map
      (λ n a.
      within-≈ (≈-sym (mean-* (hours n season row) (x n) counts))
      (widen (scaled-within row.minutes 60 hour-pos (hours-is n season row) a) (omega (arith, mul-le-mul r.minutes-most h))))
