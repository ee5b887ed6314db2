-- How much E(0.0716·T) rises over a parking: the exact sum over its half-hour steps that rise, of which the parking's vapour is a
-- multiple.
use mathlib.Core.Bool.{Bool, true, false}
use mathlib.Core.Path.{◌≡◌, sym, subst}
use Prim.Native.Nat.{ℕ, suc, zero, ◌+◌, ◌*◌, ◌^◌, ◌%◌, ◌≤◌, ◌<◌}
use native.Mathlib.Omega.{arith}
use Rattle.numbers.specs.Fraction.{Fraction, ◌≤ᶠ◌, ◌≈ᶠ◌, ◌-ᶠ◌, ◌*ᶠ◌, whole, ◌/10^◌}
use Rattle.bounds.specs.Series.{E}
use Rattle.numbers.proofs.Order.{NonNegative, NonNegative-up, whole-NonNegative, either, ≤-antisym, ≈→≥, ≈-refl, ≈-sym}
use Rattle.numbers.proofs.Order.{≈-trans, test-cases, test-true, test-cong, +-cong, sub-cong, sub_self, sub-NonNegative}
use Rattle.numbers.proofs.Order.{*-cong, *-zero, *-distrib}
use Rattle.bounds.proofs.Laws.{E-cong}
use Rattle.exact.specs.Day.{start_mark}
use Rattle.exact.specs.Rise.{step_rise, rises, gain}
use Rattle.exact.specs.Vapour.{vapour, step_vapour, parking_vapour}
use Rattle.marks.specs.Marks.{step_at}
use Rattle.marks.proofs.Heat.{heat-most, heat-mono}

module _ (n : ℕ) where
  -- where the temperature does not fall the step is the difference,
  pub step-rises : {T U : Fraction} → T ≤ᶠ U → step_rise n T U ≈ᶠ E n (716 /10^ 4 *ᶠ U) -ᶠ E n (716 /10^ 4 *ᶠ T)
  unfolding step_rise
  step-rises {T} {U} h =
      subst
      (λ (c : Bool). elim c [ true ↦ E n (716 /10^ 4 *ᶠ U) -ᶠ E n (716 /10^ 4 *ᶠ T) | false ↦ whole 0 ] ≈ᶠ E n
      (716 /10^ 4 *ᶠ U) -ᶠ E n (716 /10^ 4 *ᶠ T))
      (sym (test-true h)) (≈-refl _)

  -- and where it does not rise nothing
  pub step_falls : {T U : Fraction} → U ≤ᶠ T → step_rise n T U ≈ᶠ whole 0
  unfolding step_rise
  step_falls {T} {U} h =
      test-cases (λ (c : Bool). elim c [ true ↦ E n (716 /10^ 4 *ᶠ U) -ᶠ E n (716 /10^ 4 *ᶠ T) | false ↦ whole 0 ] ≈ᶠ whole 0) T U
      (λ l. ≈-trans (sub-cong (≤-antisym (heat-mono n h) (heat-mono n l)) (≈-refl _)) (sub_self _)) (λ _. ≈-refl (whole 0))

  -- a step is 0 or more
  pub step-NonNegative : (T U : Fraction) → NonNegative (step_rise n T U)
  step-NonNegative T U =
      either T U (λ h. NonNegative-up (≈→≥ (step-rises h)) (sub-NonNegative (heat-mono n h)))
      (λ h. NonNegative-up (≈→≥ (step_falls h)) (whole-NonNegative 0))

  -- equal temperatures have equal steps
  step-cong : {T T' U U' : Fraction} → T ≈ᶠ T' → U ≈ᶠ U' → step_rise n T U ≈ᶠ step_rise n T' U'
  unfolding step_rise
  step-cong {T} {T'} {U} {U'} e f =
      subst
      (λ (c : Bool). step_rise n T U ≈ᶠ elim c [ true ↦ E n (716 /10^ 4 *ᶠ U') -ᶠ E n (716 /10^ 4 *ᶠ T') | false ↦ whole 0 ])
      (test-cong e f)
      (test-cases
      (λ (c : Bool).
      elim c [ true ↦ E n (716 /10^ 4 *ᶠ U) -ᶠ E n (716 /10^ 4 *ᶠ T) | false ↦ whole 0 ]
      ≈ᶠ elim c [ true ↦ E n (716 /10^ 4 *ᶠ U') -ᶠ E n (716 /10^ 4 *ᶠ T') | false ↦ whole 0 ])
      T U
      (λ h. sub-cong (E-cong n (*-cong (≈-refl (716 /10^ 4)) f)) (E-cong n (*-cong (≈-refl (716 /10^ 4)) e)))
      (λ h. ≈-refl (whole 0)))

  -- and equal rises
  pub rises-cong : {T U : ℕ → Fraction} (hour d : ℕ) → ((i : ℕ) → T i ≈ᶠ U i) → rises n T hour d ≈ᶠ rises n U hour d
  unfolding rises
  rises-cong hour zero e = ≈-refl (whole 0)
  rises-cong hour (suc d) e = +-cong (rises-cong hour d e) (step-cong (e (start_mark hour (suc d))) (e (start_mark hour d)))

  module _ (vp fill tank : Fraction) where
    -- a step's vapour is that many times its rise
    step_is : (T U : Fraction) → step_vapour n vp fill tank T U ≈ᶠ gain n vp fill tank *ᶠ step_rise n T U
    unfolding step_vapour vapour step_rise
    step_is T U =
        test-cases
        (λ (c : Bool).
        elim c [ true ↦ vapour n vp fill tank T U | false ↦ whole 0 ]
        ≈ᶠ gain n vp fill tank *ᶠ elim c [ true ↦ E n (716 /10^ 4 *ᶠ U) -ᶠ E n (716 /10^ 4 *ᶠ T) | false ↦ whole 0 ])
        T U (λ h. ≈-refl _) (λ h. ≈-sym (*-zero _))

    -- and so is a parking's
    pub vapour-rises : (T : ℕ → Fraction) (hour d : ℕ) → parking_vapour n vp fill tank T hour d ≈ᶠ gain n vp fill tank *ᶠ rises n T hour d
    unfolding parking_vapour rises
    vapour-rises T hour zero = ≈-sym (*-zero (gain n vp fill tank))
    vapour-rises T hour (suc d) =
        ≈-trans (+-cong (vapour-rises T hour d) (step_is (T (start_mark hour (suc d))) (T (start_mark hour d))))
        (≈-sym (*-distrib (gain n vp fill tank) (rises n T hour d) (step_rise n (T (start_mark hour (suc d))) (T (start_mark hour d)))))

-- the mark after that of d + 1 half-hours before the end is that of d before it
pub next-mark : (hour d : ℕ) → d < 48 → (start_mark hour (suc d) + 1) % 48 ≡ start_mark hour d
unfolding start_mark
next-mark hour d h = omega arith

-- a step is at most E(0.0716·50), at any mark temperatures up to 50 °C
pub step-most : (θ : ℕ → ℕ) → ((i : ℕ) → θ i ≤ 80 * 10 ^ 10) → (i : ℕ) → step_at θ i ≤ 36 * 2 ^ 40
unfolding step_at
step-most θ warm i = omega (arith, heat-most (θ ((i + 1) % 48)) (warm ((i + 1) % 48)))
