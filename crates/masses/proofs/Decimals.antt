-- Decimal numbers k·10⁻ᵖ: their sums, products and multiples are decimal numbers.
-- Assumes nothing.
use Prim.Native.Nat.{ℕ, suc, zero, ◌+◌, ◌*◌, ◌-◌, ◌^◌, ◌≤◌}
use lib.Pow.{pow-add}
use native.Mathlib.Omega.{arith}
use Rattle.numbers.specs.Fraction.{◌≈ᶠ◌, ◌+ᶠ◌, negᶠ, ◌-ᶠ◌, ◌*ᶠ◌, whole, ◌/10^◌, ◌times◌}

-- 0 in every number of places
pub decimal-zero : (places : ℕ) → whole 0 ≈ᶠ 0 /10^ places
unfolding ◌/10^◌ whole
decimal-zero places = record { cross = omega arith }

-- j·10⁻ᵖ + k·10⁻ᵖ = (j + k)·10⁻ᵖ
pub decimal-sum : (j k places : ℕ) → j /10^ places +ᶠ k /10^ places ≈ᶠ (j + k) /10^ places
unfolding ◌/10^◌ ◌+ᶠ◌
decimal-sum j k places = record { cross = omega arith }

-- j·10⁻ᵖ · k·10⁻ᑫ = j·k·10⁻⁽ᵖ⁺ᑫ⁾
pub decimal-product : (j p k q : ℕ) → j /10^ p *ᶠ k /10^ q ≈ᶠ (j * k) /10^ (p + q)
unfolding ◌/10^◌ ◌*ᶠ◌
decimal-product j p k q = record { cross = rw (pow-add 10 p q) (omega arith) }

-- k·10⁻ᵖ with q places more
pub decimal-places : (k p q : ℕ) → k /10^ p ≈ᶠ (k * 10 ^ q) /10^ (p + q)
unfolding ◌/10^◌
decimal-places k p q = record { cross = rw (pow-add 10 p q) (omega arith) }

-- k times j·10⁻ᵖ
pub decimal-times : (k j places : ℕ) → k times j /10^ places ≈ᶠ (k * j) /10^ places
unfolding ◌/10^◌ ◌times◌ whole
decimal-times zero j places = record { cross = omega arith }
decimal-times (suc k) j places = record { cross = omega arith }

-- what a share in percent leaves: 1 − k·10⁻² = (100 − k)·10⁻²
pub decimal-rest : (k : ℕ) → k ≤ 100 → whole 1 -ᶠ k /10^ 2 ≈ᶠ (100 - k) /10^ 2
unfolding ◌/10^◌ ◌-ᶠ◌ ◌+ᶠ◌ negᶠ whole
decimal-rest k h = record { cross = omega arith }
