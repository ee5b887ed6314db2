-- What seeps through hoses and tank walls. Definitions only.
use Rattle.std.specs.Prelude.{ℕ, suc, zero}
use Rattle.numbers.specs.Fraction.{Fraction, ◌+ᶠ◌, ◌*ᶠ◌, whole, ◌/10^◌}
use Rattle.bounds.specs.Series.{E, power2_5}
use Rattle.exact.specs.Day.{start_mark}

-- "6.1656·10⁻⁶·T^2.5 + 0.0206", the bracket of eq. 14
unfoldable pub bracket : ℕ → Fraction → Fraction
bracket n T = 61656 /10^ 10 *ᶠ power2_5 n T +ᶠ 206 /10^ 4

-- vp in kPa; temperatures in °C, permeation in grams
module _ (n : ℕ) (vp : Fraction) where
  -- "Permeation per hour (eq. 14) at T: E(0.004·vp)·(6.1656·10⁻⁶·T^2.5 + 0.0206)."
  unfoldable pub permeation : Fraction → Fraction
  permeation T = E n (4 /10^ 3 *ᶠ vp) *ᶠ bracket n T

  -- the hourly rates "summed over its marks, start included, end left out": mark temperatures, end hour, half-hours
  unfoldable pub mark_rates : (ℕ → Fraction) → ℕ → ℕ → Fraction
  mark_rates temperature hour zero = whole 0
  mark_rates temperature hour (suc d) = mark_rates temperature hour d +ᶠ permeation (temperature (start_mark hour (suc d)))

  -- "A parking's permeation is half the rate summed over its marks"
  unfoldable pub parking_permeation : (ℕ → Fraction) → ℕ → ℕ → Fraction
  parking_permeation temperature hour d = 5 /10^ 1 *ᶠ mark_rates temperature hour d
