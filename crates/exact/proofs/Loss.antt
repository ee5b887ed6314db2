-- The two cases of B(m), each by its condition.
-- Assumes nothing.
use mathlib.Core.Path.{◌≡◌, ap}
use mathlib.Core.Bool.{Bool, true, false}
use Prim.Native.Nat.{ℕ}
use Rattle.numbers.specs.Fraction.{Fraction, ◌≤ᶠ◌, ◌+ᶠ◌, ◌-ᶠ◌}
use Rattle.numbers.proofs.Order.{test-true, test-false}
use Rattle.exact.specs.Canister.{curve, B}

module _ (n : ℕ) (vp s saturation T m : Fraction) where
  -- "B(m) = E(a + b·s·m) up to m_sat"
  pub B-up-to : m ≤ᶠ saturation → B n vp s saturation T m ≡ curve n vp s saturation T m
  unfolding B
  B-up-to h =
      ap
      (λ (t : Bool). elim t [
        | true ↦ curve n vp s saturation T m
        | false ↦ curve n vp s saturation T saturation +ᶠ m -ᶠ saturation
      ]) (test-true h)

  -- "above it B(m_sat) + m − m_sat"
  pub B-above : ¬ (m ≤ᶠ saturation) → B n vp s saturation T m ≡ curve n vp s saturation T saturation +ᶠ m -ᶠ saturation
  unfolding B
  B-above h =
      ap
      (λ (t : Bool). elim t [
        | true ↦ curve n vp s saturation T m
        | false ↦ curve n vp s saturation T saturation +ᶠ m -ᶠ saturation
      ]) (test-false h)
