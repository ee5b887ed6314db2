-- The vapour that a warming tank drives out. Definitions only.
use Rattle.std.specs.Prelude.{true, false, ℕ, suc, zero}
use Rattle.numbers.specs.Fraction.{Fraction, ◌+ᶠ◌, ◌-ᶠ◌, ◌*ᶠ◌, whole, ◌/10^◌, ◌≤?◌}
use Rattle.bounds.specs.Series.{E}
use Rattle.exact.specs.Day.{start_mark}

-- vp in kPa, fill level h/100, tank in litres; temperatures in °C, vapour in grams
module _ (n : ℕ) (vp fill tank : Fraction) where
  -- "Vapour (eq. 8) from T to U, U ≥ T, in grams: (1 − h/100)·tank·0.025·E(0.0205·vp)·(E(0.0716·U) − E(0.0716·T))"
  unfoldable pub vapour : Fraction → Fraction → Fraction
  vapour T U =
      (whole 1 -ᶠ fill) *ᶠ tank *ᶠ 25 /10^ 3 *ᶠ E n (205 /10^ 4 *ᶠ vp) *ᶠ (E n (716 /10^ 4 *ᶠ U) -ᶠ E n (716 /10^ 4 *ᶠ T))

  -- one half-hour step: "falling steps give nothing"
  unfoldable pub step_vapour : Fraction → Fraction → Fraction
  step_vapour T U = elim (T ≤? U) [ true ↦ vapour T U | false ↦ whole 0 ]

  -- "A parking's vapour is the sum over its half-hour steps that rise": mark temperatures, end hour, half-hours
  unfoldable pub parking_vapour : (ℕ → Fraction) → ℕ → ℕ → Fraction
  parking_vapour temperature hour zero = whole 0
  parking_vapour temperature hour (suc d) =
      parking_vapour temperature hour d +ᶠ
      step_vapour (temperature (start_mark hour (suc d))) (temperature (start_mark hour d))
