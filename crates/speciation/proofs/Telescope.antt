-- A sequence that grows, and its differences.
-- Assumes nothing.
use mathlib.Core.Path.{◌≡◌}
use Prim.Native.Nat.{ℕ, suc, zero, ◌+◌, ◌-◌, ◌≤◌, ◌<◌}
use native.Mathlib.Numerals.{add-one}
use native.Mathlib.Omega.{arith}
use Rattle.numbers.specs.Lists.{sum}

-- the differences add up to the last value less the first
pub telescope : (g : ℕ → ℕ) (n : ℕ) → ((i : ℕ) → i < n → g i ≤ g (i + 1)) → sum (λ (i : ℕ). g (i + 1) - g i) n + g 0 ≡ g n
unfolding sum
telescope g zero h = omega arith
telescope g (suc n) h = rw (← add-one n) (omega (arith, telescope g n (λ i l. h i (omega arith)), h n (omega arith)))
