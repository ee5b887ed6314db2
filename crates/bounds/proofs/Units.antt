-- Counts of units of 2⁻⁴⁰ as fractions. Nothing here speaks of E.
use Prim.Native.Nat.{ℕ, ◌+◌, ◌^◌, ◌≤◌}
use native.Mathlib.Omega.{arith}
use Rattle.numbers.specs.Fraction.{Fraction, ◌≤ᶠ◌, ◌≈ᶠ◌, ◌+ᶠ◌}
use Rattle.numbers.proofs.Order.{≈-refl, ≈-trans, +-cong, +_assoc, ratio-mono, ratio-sum}
use Rattle.bounds.specs.Enclosure.{Within}
pub use Rattle.bounds.specs.Line.{unit-pos, units}
use Rattle.bounds.proofs.Within.{ratio-within}

-- they are in the order of the counts
pub units-≤ : {j k : ℕ} → j ≤ k → units j ≤ᶠ units k
units-≤ h = ratio-mono unit-pos h

-- and add as the counts do
pub units-sum : (j k : ℕ) → units j +ᶠ units k ≈ᶠ units (j + k)
units-sum j k = ratio-sum j k (2 ^ 40) unit-pos

-- so do those that are added to a value
pub units-fold : (y : Fraction) (j k : ℕ) → y +ᶠ units j +ᶠ units k ≈ᶠ y +ᶠ units (j + k)
units-fold y j k = ≈-trans (+_assoc y (units j) (units k)) (+-cong (≈-refl y) (units-sum j k))

-- a count encloses its units
pub units-within : (k : ℕ) → Within (2 ^ 40) k 0 (units k)
units-within k = ratio-within k (2 ^ 40) unit-pos (omega arith) (omega arith)
