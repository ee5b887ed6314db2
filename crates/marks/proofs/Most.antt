-- How large a computed value is, from how large the exact one is.
use Prim.Native.Nat.{ℕ, ◌*◌, ◌^◌, ◌≤◌}
use native.Mathlib.Omega.{arith}
use native.Mathlib.Nat.{mul-le-mul_left, mul-le-mul_right, le_of_mul-le-mul_right}
use Rattle.numbers.specs.Fraction.{Fraction, ◌≤ᶠ◌, ◌/10^◌}
use Rattle.bounds.specs.Enclosure.{Within, WithinAll}

-- what an upper bound of an enclosed value says of its lower one: x ≤ k·10⁻ᵖˡᵃᶜᵉˢ gives l ≤ k·10⁻ᵖˡᵃᶜᵉˢ·s
pub within-most : {s l w : ℕ} {x : Fraction} (k places : ℕ) → Within s l w x → x ≤ᶠ k /10^ places → l * 10 ^ places ≤ k * s
unfolding ◌/10^◌
within-most {s} {x = x} k places a h =
    le_of_mul-le-mul_right {k = x.den} (omega (arith, mul-le-mul_right (10 ^ places) a.above, mul-le-mul_left s h.cross)) x.pos

-- the same of a value that is enclosed for every n
pub all_most : {s l w : ℕ} {x : ℕ → Fraction} (k places : ℕ) → WithinAll s l w x → x 40 ≤ᶠ k /10^ places → l * 10 ^ places ≤ k * s
all_most k places a h = within-most k places (a.at 40 (omega arith)) h
