-- The short exponential encloses E at an exponent that is known within a width: up to 0, where a mileage is given, and up to 3. The two laws of
-- `bounds` as one record, so that the breakthrough is proved once for both.
-- Assumes nothing.
use Prim.Native.Nat.{ℕ, ◌+◌, ◌*◌, ◌/◌, ◌^◌, ◌≤◌}
use Rattle.numbers.specs.Fraction.{Fraction, ◌≤ᶠ◌, whole}
use Rattle.bounds.specs.Series.{E}
use Rattle.bounds.specs.Enclosure.{Within}
use Rattle.bounds.specs.Short.{short}
use Rattle.bounds.specs.Line.{Held}
use Rattle.bounds.proofs.Laws.{held-to-0, held-to-3}

pub record ShortSlope : Type 0 where
  -- exponents up to this one
  pub top : Fraction
  -- how far E can be above the computed one, in units of 2⁻³⁶: at an exponent that is known exactly,
  pub error : ℕ
  -- and by how much more where it is known within w units of 2⁻⁵³
  pub moved : ℕ → ℕ
  pub encloses : {x w : ℕ} {z : Fraction} → Held x w z → z ≤ᶠ top → (n : ℕ) → 40 ≤ n → Within (2 ^ 36) (short x) (error + moved w) (E n z)

-- up to 0
abbrev pub short_to0 : ShortSlope
short_to0 = record { top = whole 0; error = 1047; moved = λ (w : ℕ). w / 2 ^ 17 + 1; encloses = held-to-0 }

-- up to 3
abbrev pub short_to3 : ShortSlope
short_to3 = record { top = whole 3; error = 5797; moved = λ (w : ℕ). 201 * w / 1310720 + 1; encloses = held-to-3 }
