-- What it means that a computed whole number encloses an exact value. Definitions only.
use Rattle.std.specs.Prelude.{ℕ, ◌+◌, ◌*◌, ◌≤◌}
use Rattle.numbers.specs.Fraction.{Fraction}

-- low / scale ≤ x ≤ (low + width) / scale, compared crosswise
pub record Within (scale low width : ℕ) (x : Fraction) : Type 0 where
  pub above : low * x.den + x.down * scale ≤ x.up * scale
  pub below : x.up * scale ≤ (low + width) * x.den + x.down * scale

-- "a bound on an exact value holds for every such n", n of 40 or more; x gives the exact value for each n
pub record WithinAll (scale low width : ℕ) (x : ℕ → Fraction) : Type 0 where
  pub at : (n : ℕ) → 40 ≤ n → Within scale low width (x n)
