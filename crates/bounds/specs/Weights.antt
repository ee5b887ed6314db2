-- The hourly weights of document 01, "Exact masses", with the distance of request Five. Definitions only.
use Rattle.std.specs.Prelude.{List, [], ◌∷◌, ◌≡◌, ℕ, ◌+◌, ◌-◌, ◌%◌, ◌^◌, ◌≤◌, ◌<◌, min, get_or}
use Rattle.numbers.specs.Fraction.{Fraction, ◌≤ᶠ◌, ◌+ᶠ◌, ◌-ᶠ◌, negᶠ, ◌*ᶠ◌, ◌^ᶠ◌, whole, ◌/10^◌, ◌over◌}
use Rattle.bounds.specs.Series.{E}

-- "The hourly weights are a constant table of 48 billionths", at marks 0 to 47
unfoldable pub weights : List ℕ
weights =
    84584859 ∷ 65665934 ∷ 50352853 ∷ 38136822 ∷ 28529975 ∷ 38136822 ∷ 50352853 ∷ 65665934 ∷
    84584859 ∷ 107617178 ∷ 135240582 ∷ 167868390 ∷ 205810384 ∷ 249231025 ∷ 298107834 ∷ 352193337 ∷
    410984409 ∷ 473702875 ∷ 539290981 ∷ 606424526 ∷ 673545317 ∷ 738913068 ∷ 800675126 ∷ 856950604 ∷
    905923875 ∷ 945941075 ∷ 975602549 ∷ 993844026 ∷ 1000000000 ∷ 993844026 ∷ 975602549 ∷ 945941075 ∷
    905923875 ∷ 856950604 ∷ 800675126 ∷ 738913068 ∷ 673545317 ∷ 606424526 ∷ 539290981 ∷ 473702875 ∷
    410984409 ∷ 352193337 ∷ 298107834 ∷ 249231025 ∷ 205810384 ∷ 167868390 ∷ 135240582 ∷ 107617178 ∷ []

abbrev pub w : ℕ → ℕ
w i = get_or weights i 0

-- from mark i to mark 28, which is 14:00, in half-hours: one way, by mark or back, and "the shorter way round the day to 14:00, at most 12 hours"
unfoldable pub one_way : ℕ → ℕ
one_way i = i - 28 + (28 - i)

unfoldable pub apart : ℕ → ℕ
apart i = min (one_way i) (48 - one_way i)

-- "−0.0247·(i/2−14)²", the exponent of w(i), with that distance for i/2 − 14
unfoldable pub weight_exponent : ℕ → Fraction
weight_exponent i = negᶠ (247 /10^ 4 *ᶠ (whole (apart i) over 2) ^ᶠ 2)

-- "differs from 10⁹·E of that exponent by less than one half for every n ≥ 40": by 0.49 at most
pub record Nearest (i weight : ℕ) : Type 0 where
  pub low : (n : ℕ) → 40 ≤ n → whole weight -ᶠ 49 /10^ 2 ≤ᶠ whole (10 ^ 9) *ᶠ E n (weight_exponent i)
  pub high : (n : ℕ) → 40 ≤ n → whole (10 ^ 9) *ᶠ E n (weight_exponent i) ≤ᶠ whole weight +ᶠ 49 /10^ 2

-- "w(i) is the whole number nearest to 10⁹·e^(−0.0247·(i/2−14)²), and differs from 10⁹·E of that exponent by less than one half for every
-- n ≥ 40." Proved as `weight-nearest` in proofs/Weights.
abbrev pub NearestTheorem : Type 0
NearestTheorem = (i : ℕ) → i < 48 → Nearest i (w i)

-- Request Five: "the temperature of 24:00 and of 0:00 is one temperature, read on an unbroken curve .. so the lowest weight is now at 2:00",
-- which is mark 4. Proved as `round-the-day` in proofs/Weights.
pub record RoundTheDay : Type 0 where
  -- hour 24 is as far from 14:00 as hour 0, and no mark is further than 12 hours
  pub midnight : apart 48 ≡ apart 0
  pub at-most-12-hours : (i : ℕ) → apart i ≤ 24
  -- from mark to mark, from the last to the first too, the way is half an hour longer from 14:00 to 2:00, and shorter from there
  pub further : (k : ℕ) → k < 24 → apart ((28 + k + 1) % 48) ≡ apart ((28 + k) % 48) + 1
  pub nearer : (k : ℕ) → k < 24 → apart (4 + k) ≡ apart (4 + k + 1) + 1
  -- so the weights fall once and rise once, and none is below that of 2:00
  pub falls : (k : ℕ) → k < 24 → w ((28 + k + 1) % 48) < w ((28 + k) % 48)
  pub rises : (k : ℕ) → k < 24 → w (4 + k) < w (4 + k + 1)
  pub lowest : (i : ℕ) → i < 48 → w 4 ≤ w i
