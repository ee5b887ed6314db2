-- How much E(0.0716·T) rises over a parking: the part of its vapour that its steps make. Definitions only.
use Rattle.std.specs.Prelude.{true, false, ℕ, suc, zero}
use Rattle.numbers.specs.Fraction.{Fraction, ◌+ᶠ◌, ◌-ᶠ◌, ◌*ᶠ◌, whole, ◌/10^◌, ◌≤?◌}
use Rattle.bounds.specs.Series.{E}
use Rattle.exact.specs.Day.{start_mark}

-- one half-hour step from T to U: E(0.0716·U) − E(0.0716·T); "falling steps give nothing"
unfoldable pub step_rise : ℕ → Fraction → Fraction → Fraction
step_rise n T U = elim (T ≤? U) [ true ↦ E n (716 /10^ 4 *ᶠ U) -ᶠ E n (716 /10^ 4 *ᶠ T) | false ↦ whole 0 ]

-- "the sum over its half-hour steps that rise": mark temperatures, end hour, half-hours
unfoldable pub rises : ℕ → (ℕ → Fraction) → ℕ → ℕ → Fraction
rises n T hour zero = whole 0
rises n T hour (suc d) = rises n T hour d +ᶠ step_rise n (T (start_mark hour (suc d))) (T (start_mark hour d))

-- what a rise of 1 drives out: "(1 − h/100)·tank·0.025·E(0.0205·vp)"; a parking's vapour is this times its rises
abbrev pub gain : ℕ → Fraction → Fraction → Fraction → Fraction
gain n vp fill tank = (whole 1 -ᶠ fill) *ᶠ tank *ᶠ 25 /10^ 3 *ᶠ E n (205 /10^ 4 *ᶠ vp)
