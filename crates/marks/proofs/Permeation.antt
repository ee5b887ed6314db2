-- What seeps through hoses and tank walls: the computed permeation encloses the exact one, per hour and over a parking.
use mathlib.Core.Bool.{Bool}
use mathlib.Core.Path.{◌≡◌, ap, sym, ◌∙◌}
use Prim.Native.Nat.{ℕ, suc, zero, ◌+◌, ◌*◌, ◌^◌, ◌/◌, ◌≤◌, ◌<◌}
use native.Mathlib.Omega.{arith}
use native.Mathlib.Nat.{le_antisymm, le_of_lt, mul_comm, mul-le-mul}
use Rattle.sheet.specs.Limits.{vp_limit}
use Rattle.numbers.specs.Fraction.{Fraction, ◌≤ᶠ◌, ◌≈ᶠ◌, ◌*ᶠ◌, whole, ◌/10^◌}
use Rattle.bounds.proofs.Laws.{E-to-0_44, E-cong, exponential-within, exponential_error-2_3, power-within, power_size}
use Rattle.bounds.proofs.Laws.{cut_root-is, cut_root-multiple, power2_5-above, power2_5-below}
use Rattle.bounds.specs.Series.{E, cut_root, power2_5, two_pos, multiple, LargestMultiple}
use Rattle.bounds.specs.Enclosure.{WithinAll}
use Rattle.bounds.specs.Exponential.{exponent}
use Rattle.bounds.specs.Power.{degrees, power}
use Rattle.numbers.proofs.Order.{≈-refl, ≈-sym, ≤-by, test-cases, not-≤→<, +-cong, *-cong, ^-cong, ^-NonNegative, non_negative, NonNegative→≤, ratio}
use Rattle.bounds.proofs.Within.{widen, weaken, within-≈, round-within, decimal-within, whole-within, +-within}
use Rattle.bounds.proofs.Within.{*-within, *-within-rounded, scaled-within, all_map, all-map₂}
use Rattle.exact.specs.Day.{start_mark}
use Rattle.exact.specs.Permeation.{bracket, permeation, mark_rates, parking_permeation}
use Rattle.marks.specs.Marks.{pressure_factor, bracket_units, rate, passed}
use Rattle.marks.proofs.Most.{all_most}

-- how far permeation per hour can be above `rate`
abbrev pub rate_error : ℕ
rate_error = 494

-- Equal temperatures.

-- equal values have one largest multiple
largest-one : {n : ℕ} {x y : Fraction} {r k : ℕ} → x ≈ᶠ y → LargestMultiple n x r → LargestMultiple n y k → r ≡ k
largest-one e a b =
    le_antisymm (b.largest _ (≤-by (≈-refl _) (≈-sym e) a.low)) (a.largest _ (≤-by (≈-refl _) e b.low))

-- and one cut root, from 0 upward
cut_root-cong : (n : ℕ) {x y : Fraction} → whole 0 ≤ᶠ x → x ≈ᶠ y → cut_root n x ≡ cut_root n y
cut_root-cong n {x} {y} h e =
    let g : whole 0 ≤ᶠ y = ≤-by (≈-refl (whole 0)) (≈-sym e) h in
    cut_root-multiple n x ∙ ap (multiple n) (largest-one e (cut_root-is n x h) (cut_root-is n y g)) ∙ sym (cut_root-multiple n y)

-- equal temperatures have one T^2.5
power2_5-cong : (n : ℕ) {T U : Fraction} → T ≈ᶠ U → power2_5 n T ≡ power2_5 n U
power2_5-cong n {T} {U} e =
    test-cases (λ (c : Bool). power2_5 n T ≡ power2_5 n U) (whole 0) T
    (λ h.
    power2_5-above n h ∙ cut_root-cong n (NonNegative→≤ (^-NonNegative 5 (non_negative h))) (^-cong 5 e) ∙
    sym (power2_5-above n (≤-by (≈-refl (whole 0)) (≈-sym e) h)))
    (λ h.
    power2_5-below n (not-≤→< h) ∙ sym (power2_5-below n (not-≤→< {x = whole 0} {y = U} (λ g. h (≤-by (≈-refl (whole 0)) e g)))))

module _ (n : ℕ) (vp : Fraction) where
  -- equal temperatures have equal permeation
  pub permeation-cong : {T U : Fraction} → T ≈ᶠ U → permeation n vp T ≈ᶠ permeation n vp U
  unfolding permeation bracket
  permeation-cong e = rw (power2_5-cong n e) (≈-refl _)

  -- at every mark
  mark_rates-cong : {T U : ℕ → Fraction} (hour d : ℕ) → ((i : ℕ) → T i ≈ᶠ U i) → mark_rates n vp T hour d ≈ᶠ mark_rates n vp U hour d
  unfolding mark_rates
  mark_rates-cong hour zero e = ≈-refl (whole 0)
  mark_rates-cong hour (suc d) e = +-cong (mark_rates-cong hour d e) (permeation-cong (e (start_mark hour (suc d))))

  -- and over a parking
  pub parking_permeation-cong : {T U : ℕ → Fraction} (hour d : ℕ) → ((i : ℕ) → T i ≈ᶠ U i)
      → parking_permeation n vp T hour d ≈ᶠ parking_permeation n vp U hour d
  unfolding parking_permeation
  parking_permeation-cong hour d e = *-cong (≈-refl (5 /10^ 1)) (mark_rates-cong hour d e)

-- Per hour.

module _ (vp : ℕ) (h : vp ≤ vp_limit) where
  -- 0.004·vp is the exponent that is computed with
  pressure-exponent : 4 /10^ 3 *ᶠ vp /10^ 1 ≈ᶠ exponent (4 * vp * 10 ^ 10 + 16 * 10 ^ 14)
  unfolding ◌/10^◌ ◌*ᶠ◌
  pressure-exponent = omega arith

  -- E(0.004·vp)
  pressure-within : WithinAll (2 ^ 40) (pressure_factor vp) 83 (λ n. E n (4 /10^ 3 *ᶠ vp /10^ 1))
  unfolding pressure_factor
  pressure-within =
      all_map
      (λ n a. within-≈ (E-cong n (≈-sym pressure-exponent)) (widen a (exponential_error-2_3 (4 * vp * 10 ^ 10 + 16 * 10 ^ 14) (omega arith))))
      (exponential-within (4 * vp * 10 ^ 10 + 16 * 10 ^ 14) (omega arith))

  -- 0.004·vp ≤ 0.44
  pressure-≤ : 4 /10^ 3 *ᶠ vp /10^ 1 ≤ᶠ 44 /10^ 2
  unfolding ◌/10^◌ ◌*ᶠ◌
  pressure-≤ = omega arith

  -- E(0.44) ≤ 1.56
  pressure-most : pressure_factor vp ≤ 156 * 2 ^ 40 / 100
  pressure-most = omega (arith, all_most 156 2 pressure-within (E-to-0_44 40 (omega arith) pressure-≤))

module _ (θ : ℕ) (h : θ ≤ 95 * 10 ^ 10) where
  -- 6.1656·10⁻⁶·T^2.5
  power-part : WithinAll (2 ^ 40) (power θ * 444278301800 / 2 ^ 40) 292 (λ n. 61656 /10^ 10 *ᶠ power2_5 n (degrees θ))
  power-part = record {
    at = λ n l.
        rw (mul_comm (power θ) 444278301800)
        (widen (round-within (2 ^ 40) (omega arith)
        (*-within {s = 2 ^ 56} {l = 444278301800} {w = 1} (decimal-within 61656 10 (omega arith) (omega arith))
        ((power-within θ h).at n l)))
        (omega (arith, power_size θ h)));
  }

  -- the bracket
  bracket-within : WithinAll (2 ^ 40) (bracket_units θ) 293 (λ n. bracket n (degrees θ))
  unfolding bracket_units bracket
  bracket-within =
      all_map (λ n a. +-within a (decimal-within {w = 1} 206 4 (omega arith) (omega arith))) power-part

  -- is below 0.43
  bracket-most : bracket_units θ ≤ 43 * 2 ^ 40 / 100
  unfolding bracket_units
  bracket-most = omega (arith, power_size θ h)

module _ (vp θ : ℕ) (h : vp ≤ vp_limit) (warm : θ ≤ 95 * 10 ^ 10) where
  -- permeation per hour, up to 65 °C
  pub rate-within : WithinAll (2 ^ 40) (rate vp θ) rate_error (λ n. permeation n (vp /10^ 1) (degrees θ))
  unfolding rate permeation
  rate-within =
      all-map₂
      (λ n a b. widen (*-within-rounded (156 * 2 ^ 40 / 100) (43 * 2 ^ 40 / 100) (omega arith) (pressure-most vp h)
      (bracket-most θ warm) a b) (omega arith))
      (pressure-within vp h) (bracket-within θ warm)

  -- is below a gram
  pub rate-most : rate vp θ < 2 ^ 40
  unfolding rate
  rate-most = cut (mul-le-mul (pressure-most vp h) (bracket-most θ warm))
    where
      cut : {x : ℕ} → x ≤ 156 * 2 ^ 40 / 100 * (43 * 2 ^ 40 / 100) → x / 2 ^ 40 < 2 ^ 40
      cut h = omega arith

-- Over a parking.

-- a sum over d marks of values of at most B each
pub passed-most : (f : ℕ → ℕ) (B : ℕ) → ((i : ℕ) → f i ≤ B) → (hour d : ℕ) → passed f hour d ≤ d * B
unfolding passed
passed-most f B h hour zero = omega arith
passed-most f B h hour (suc d) = omega (arith, passed-most f B h hour d, h (start_mark hour (suc d)))

-- one half
half_is : 5 /10^ 1 ≈ᶠ ratio 1 2 (two_pos 1)
unfolding ratio ◌/10^◌
half_is = omega arith

module _ (vp : ℕ) (θ : ℕ → ℕ) (h : vp ≤ vp_limit) (warm : (i : ℕ) → θ i ≤ 95 * 10 ^ 10) where
  -- the hourly rates summed over its marks
  rates-within : (hour d : ℕ) → WithinAll (2 ^ 40) (passed (λ i. rate vp (θ i)) hour d) (d * rate_error)
      (λ n. mark_rates n (vp /10^ 1) (λ i. degrees (θ i)) hour d)
  unfolding passed mark_rates
  rates-within hour zero = record { at = λ n l. weaken (whole-within (2 ^ 40) 0) (omega arith) (omega arith) }
  rates-within hour (suc d) =
      all-map₂ (λ n a b. widen (+-within a b) (omega arith)) (rates-within hour d)
      (rate-within vp (θ (start_mark hour (suc d))) h (warm (start_mark hour (suc d))))

  -- "half the rate summed over its marks"
  pub permeation-within : (hour d : ℕ)
      → WithinAll (2 ^ 40) (passed (λ i. rate vp (θ i)) hour d / 2) (d * rate_error / 2 + 2)
      (λ n. parking_permeation n (vp /10^ 1) (λ i. degrees (θ i)) hour d)
  unfolding parking_permeation
  permeation-within hour d =
      all_map (λ n a. weaken (scaled-within 1 2 _ half_is a) (omega arith) (omega arith)) (rates-within hour d)

  -- the sum is below a gram for each mark
  pub rates-most : (hour d : ℕ) → passed (λ i. rate vp (θ i)) hour d ≤ d * 2 ^ 40
  rates-most = passed-most (λ i. rate vp (θ i)) (2 ^ 40) (λ i. le_of_lt (rate-most vp (θ i) h (warm i)))
