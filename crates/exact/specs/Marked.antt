-- "Marked P, shown together as a table with one proof": proved as `marked` in proofs/Marked. Definitions only.
use Rattle.std.specs.Prelude.{◌≡◌, ℕ, ◌^◌}
use Rattle.numbers.specs.Fraction.{Fraction, ◌≈ᶠ◌, ◌≤ᶠ◌, negᶠ, whole, ◌/10^◌, ◌over◌}
use Rattle.bounds.specs.Series.{S, E, power2_5}
use Rattle.bounds.specs.Weights.{w}
use Rattle.exact.specs.Day.{start_mark}
use Rattle.exact.specs.Permeation.{bracket}
use Rattle.exact.specs.Canister.{a, b, breakthrough}

pub record Marked : Type 0 where
  pub S2-at-1 : S 2 (whole 1) ≈ᶠ whole 5 over 2
  pub S3-at-1 : S 3 (whole 1) ≈ᶠ whole 8 over 3
  pub E-at-minus-1 : E 2 (negᶠ (whole 1)) ≈ᶠ whole 2 over 5
  pub E-at-0 : (n : ℕ) → E n (whole 0) ≈ᶠ whole 1
  pub power-at-4 : (n : ℕ) → power2_5 n (whole 4) ≈ᶠ whole 32
  pub power-at-9 : (n : ℕ) → power2_5 n (whole 9) ≈ᶠ whole 243
  pub power-at-minus-5 : (n : ℕ) → power2_5 n (negᶠ (whole 5)) ≈ᶠ whole 0
  pub bracket-at-4 : (n : ℕ) → bracket n (whole 4) ≈ᶠ 207972992 /10^ 10
  pub a-at-60-and-20 : a (whole 60) (whole 20) ≈ᶠ negᶠ (106 /10^ 1)
  pub b-at-60-and-20 : b (whole 60) (whole 20) ≈ᶠ 108 /10^ 3
  pub w-at-28 : w 28 ≡ 10 ^ 9
  pub start-of-12-hours-to-1 : start_mark 1 24 ≡ 26
  pub start-of-half-an-hour-to-24 : start_mark 24 1 ≡ 47
  pub saturated : (n : ℕ) (vp s T m v : Fraction) → whole 0 ≤ᶠ v → breakthrough n vp s m T m v ≈ᶠ v
