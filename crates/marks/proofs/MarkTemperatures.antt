-- A season's mark temperatures are those that are held, exactly, and the raised ones too.
use Prim.Native.Nat.{ℕ, ◌+◌, ◌*◌}
use native.Mathlib.Omega.{arith}
use Rattle.numbers.specs.Fraction.{◌≈ᶠ◌, ◌+ᶠ◌, whole, ◌/10^◌}
use Rattle.bounds.specs.Power.{degrees}
use Rattle.numbers.proofs.Order.{≈-refl, ≈-trans, +-cong}
use Rattle.exact.specs.declared.Season.{Season}
use Rattle.exact.specs.Day.{temperature}
use Rattle.sheet.specs.Range.{mark_warmth, SeasonInRange}
use Rattle.sheet.proofs.Temperature.{temperature-is}
use Rattle.marks.specs.Marks.{tenths}

-- degrees θ + k/10
degrees-tenths : (θ k : ℕ) → degrees θ +ᶠ k /10^ 1 ≈ᶠ degrees (θ + tenths k)
unfolding ◌+ᶠ◌ ◌/10^◌
degrees-tenths θ k = omega arith

-- degrees θ + k
degrees-whole : (θ k : ℕ) → degrees θ +ᶠ whole k ≈ᶠ degrees (θ + tenths (10 * k))
unfolding ◌+ᶠ◌ whole
degrees-whole θ k = omega arith

module _ {season : Season} (i : ℕ) (s : SeasonInRange season) where
  -- T(i) + k/10
  pub temperature-tenths : (k : ℕ) → temperature season i +ᶠ k /10^ 1 ≈ᶠ degrees (mark_warmth season i + tenths k)
  temperature-tenths k = ≈-trans (+-cong (temperature-is i s) (≈-refl (k /10^ 1))) (degrees-tenths (mark_warmth season i) k)

  -- T(i) + k
  pub temperature-whole : (k : ℕ) → temperature season i +ᶠ whole k ≈ᶠ degrees (mark_warmth season i + tenths (10 * k))
  temperature-whole k = ≈-trans (+-cong (temperature-is i s) (≈-refl (whole k))) (degrees-whole (mark_warmth season i) k)
