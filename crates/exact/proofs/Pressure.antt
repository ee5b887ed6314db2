-- Permeation and vapour rise with the vapour pressure, for every n: each has it in the exponent of one E, beside values of 0 or more.
-- Assumes nothing.
use mathlib.Core.Bool.{Bool, true, false}
use Prim.Native.Nat.{ℕ, suc, zero, ◌≤◌}
use native.Mathlib.Omega.{arith}
use Rattle.numbers.specs.Fraction.{Fraction, ◌≤ᶠ◌, ◌-ᶠ◌, ◌*ᶠ◌, whole, ◌/10^◌}
use Rattle.numbers.proofs.Order.{NonNegative, ≤-refl, test-cases, decimal-NonNegative, +-mono, +-NonNegative}
use Rattle.numbers.proofs.Order.{sub-NonNegative, *-NonNegative, *-mono-left, *-mono-right}
use Rattle.bounds.specs.Series.{E}
use Rattle.bounds.proofs.Laws.{E-mono, power2_5-NonNegative}
use Rattle.exact.specs.Day.{start_mark}
use Rattle.exact.specs.Vapour.{vapour, step_vapour, parking_vapour}
use Rattle.exact.specs.Permeation.{bracket, permeation, mark_rates, parking_permeation}

-- 0 ≤ 1 − k/100 for a percent k
pub rest-NonNegative : {k : ℕ} → k ≤ 100 → NonNegative (whole 1 -ᶠ k /10^ 2)
unfolding whole ◌/10^◌
rest-NonNegative h = sub-NonNegative (record { cross = omega arith })

bracket-NonNegative : (n : ℕ) (T : Fraction) → NonNegative (bracket n T)
unfolding bracket
bracket-NonNegative n T = +-NonNegative (*-NonNegative (decimal-NonNegative 61656 10) (power2_5-NonNegative n T)) (decimal-NonNegative 206 4)

-- two pressures in kPa
module _ (n : ℕ) {p q : Fraction} (l : p ≤ᶠ q) where
  -- E(k·vp), k a decimal
  E-rises : (k places : ℕ) → E n (k /10^ places *ᶠ p) ≤ᶠ E n (k /10^ places *ᶠ q)
  E-rises k places = E-mono n (*-mono-right (decimal-NonNegative k places) l)

  -- Permeation: an hour at T, a parking.
  pub permeation-rises : (T : Fraction) → permeation n p T ≤ᶠ permeation n q T
  unfolding permeation
  permeation-rises T = *-mono-left (bracket-NonNegative n T) (E-rises 4 3)

  mark_rates-rise : (T : ℕ → Fraction) (hour d : ℕ) → mark_rates n p T hour d ≤ᶠ mark_rates n q T hour d
  unfolding mark_rates
  mark_rates-rise T hour zero = ≤-refl (whole 0)
  mark_rates-rise T hour (suc d) = +-mono (mark_rates-rise T hour d) (permeation-rises (T (start_mark hour (suc d))))

  pub parking_permeation-rises : (T : ℕ → Fraction) (hour d : ℕ) → parking_permeation n p T hour d ≤ᶠ parking_permeation n q T hour d
  unfolding parking_permeation
  parking_permeation-rises T hour d = *-mono-right (decimal-NonNegative 5 1) (mark_rates-rise T hour d)

  -- Vapour, where the tank is not more than full: from T to U, a step, a parking.
  module _ (fill tank : Fraction) (f : NonNegative (whole 1 -ᶠ fill)) (t : NonNegative tank) where
    pub vapour-rises : {T U : Fraction} → T ≤ᶠ U → vapour n p fill tank T U ≤ᶠ vapour n q fill tank T U
    unfolding vapour
    vapour-rises h =
        *-mono-left (sub-NonNegative (E-mono n (*-mono-right (decimal-NonNegative 716 4) h)))
        (*-mono-right (*-NonNegative (*-NonNegative f t) (decimal-NonNegative 25 3)) (E-rises 205 4))

    step_vapour-rises : (T U : Fraction) → step_vapour n p fill tank T U ≤ᶠ step_vapour n q fill tank T U
    unfolding step_vapour
    step_vapour-rises T U =
        test-cases
        (λ (c : Bool). elim c [ true ↦ vapour n p fill tank T U | false ↦ whole 0 ] ≤ᶠ elim c [ true ↦ vapour n q fill tank T U | false ↦ whole 0 ])
        T U (λ h. vapour-rises h) (λ h. ≤-refl (whole 0))

    pub parking_vapour-rises : (T : ℕ → Fraction) (hour d : ℕ)
        → parking_vapour n p fill tank T hour d ≤ᶠ parking_vapour n q fill tank T hour d
    unfolding parking_vapour
    parking_vapour-rises T hour zero = ≤-refl (whole 0)
    parking_vapour-rises T hour (suc d) =
        +-mono (parking_vapour-rises T hour d) (step_vapour-rises (T (start_mark hour (suc d))) (T (start_mark hour d)))
