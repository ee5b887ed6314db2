-- E(0.0716·T) at a temperature T, which drives the vapour out: the computed value encloses the exact one, and so does its rise.
use mathlib.Core.Path.{◌≡◌}
use Prim.Native.Nat.{ℕ, ◌+◌, ◌*◌, ◌-◌, ◌^◌, ◌≤◌, ◌<◌}
use native.Mathlib.Omega.{arith}
use Rattle.numbers.specs.Fraction.{Fraction, ◌≤ᶠ◌, ◌≈ᶠ◌, ◌-ᶠ◌, ◌*ᶠ◌, ◌/10^◌}
use Rattle.bounds.proofs.Laws.{E-to-3_58, E-to-4_0096, E-cong, E-mono, exponential-within, exponential_error-3_6}
use Rattle.bounds.proofs.Laws.{exponential_error-4_1, exponential-mono}
use Rattle.bounds.specs.Series.{E}
use Rattle.bounds.specs.Enclosure.{Within, WithinAll}
use Rattle.bounds.specs.Exponential.{exponent, exponential_error, exponent_limit}
use Rattle.bounds.specs.Power.{degrees}
use Rattle.numbers.proofs.Order.{≈-sym, *-mono-right, decimal-NonNegative}
use Rattle.bounds.proofs.Within.{widen, weaken, within-≈, sub_within, all_map, all-map₂}
use Rattle.sheet.proofs.Temperature.{degrees-mono}
use Rattle.marks.proofs.Most.{all_most}
use Rattle.marks.specs.Marks.{heat, heat_error, raised_error, raise}

-- x − y where y ≤ x, both enclosed with the width e: what x surely is above y
difference-within : {s l m e : ℕ} {x y : Fraction} → y ≤ᶠ x → Within s l e x → Within s m e y → Within s (l - (m + e)) (2 * e) (x -ᶠ y)
difference-within h a b = weaken (sub_within h a b) (omega arith) (omega arith)

-- 0.0716·T is the exponent that is computed with
exponent-is : (θ : ℕ) → 716 /10^ 4 *ᶠ degrees θ ≈ᶠ exponent (716 * θ + 13852 * 10 ^ 11)
unfolding ◌/10^◌ ◌*ᶠ◌
exponent-is θ = omega arith

-- E(0.0716·T) grows with T
pub heat-mono : (n : ℕ) {T U : Fraction} → T ≤ᶠ U → E n (716 /10^ 4 *ᶠ T) ≤ᶠ E n (716 /10^ 4 *ᶠ U)
heat-mono n h = E-mono n (*-mono-right (decimal-NonNegative 716 4) h)

-- so does the computed one
pub heat-grows : {θ θ' : ℕ} → θ ≤ θ' → θ' ≤ 80 * 10 ^ 10 → heat θ ≤ heat θ'
unfolding heat
heat-grows h l = exponential-mono (omega arith) (omega arith)

-- k °C above −30 and 0.0716 times it: 716·(k − 30)
warm-≤ : {θ : ℕ} (k last : ℕ) → 716 * k ≡ last + 21480 → θ ≤ k * 10 ^ 10 → 716 /10^ 4 *ᶠ degrees θ ≤ᶠ last /10^ 4
unfolding ◌/10^◌ ◌*ᶠ◌
warm-≤ k last e h = omega arith

module _ (θ : ℕ) where
  -- heat θ ≤ 2⁴⁰·E(0.0716·T) ≤ heat θ + most, where the error of the exponential is at most that
  bounded-within : (most : ℕ) → 716 * θ + 13852 * 10 ^ 11 < exponent_limit → exponential_error (716 * θ + 13852 * 10 ^ 11) ≤ most
      → WithinAll (2 ^ 40) (heat θ) most (λ n. E n (716 /10^ 4 *ᶠ degrees θ))
  unfolding heat
  bounded-within most h k =
      all_map (λ n a. within-≈ (E-cong n (≈-sym (exponent-is θ))) (widen a k)) (exponential-within (716 * θ + 13852 * 10 ^ 11) h)

  -- up to 50 °C
  pub heat-within : θ ≤ 80 * 10 ^ 10 → WithinAll (2 ^ 40) (heat θ) heat_error (λ n. E n (716 /10^ 4 *ᶠ degrees θ))
  heat-within h =
      bounded-within heat_error (omega arith) (exponential_error-3_6 (716 * θ + 13852 * 10 ^ 11) (omega arith))

  -- up to 56 °C
  raised-within : θ ≤ 86 * 10 ^ 10 → WithinAll (2 ^ 40) (heat θ) raised_error (λ n. E n (716 /10^ 4 *ᶠ degrees θ))
  raised-within h =
      bounded-within raised_error (omega arith) (exponential_error-4_1 (716 * θ + 13852 * 10 ^ 11) (omega arith))

  -- E(0.0716·50) ≤ 36
  pub heat-most : θ ≤ 80 * 10 ^ 10 → heat θ ≤ 36 * 2 ^ 40
  heat-most h = omega (arith, all_most 36 0 (heat-within h) (E-to-3_58 40 (omega arith) (warm-≤ 80 35800 (omega arith) h)))

  -- E(0.0716·56) ≤ 56
  pub raised-most : θ ≤ 86 * 10 ^ 10 → heat θ ≤ 56 * 2 ^ 40
  raised-most h = omega (arith, all_most 56 0 (raised-within h) (E-to-4_0096 40 (omega arith) (warm-≤ 86 40096 (omega arith) h)))

module _ (r θ : ℕ) (small : r ≤ 6 * 10 ^ 10) (h : θ ≤ 80 * 10 ^ 10) where
  -- the rise of E(0.0716·T) when T is raised by at most 6 °C
  pub raise-within : WithinAll (2 ^ 40) (raise r θ) (2 * raised_error) (λ n. E n (716 /10^ 4 *ᶠ degrees (θ + r)) -ᶠ E n (716 /10^ 4 *ᶠ degrees θ))
  unfolding raise
  raise-within =
      all-map₂ (λ n a b. difference-within (heat-mono n (degrees-mono (omega arith))) a b) (raised-within (θ + r) (omega arith))
      (raised-within θ (omega arith))

  -- is at most E(0.0716·56)
  pub raise-most : raise r θ ≤ 56 * 2 ^ 40
  unfolding raise
  raise-most = omega (arith, raised-most (θ + r) (omega arith))
