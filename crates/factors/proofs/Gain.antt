-- The gain: grams of vapour for a rise of 1 in E(0.0716·T), and the computed gain around it.
-- Assumes nothing.
use Prim.Native.Nat.{ℕ, ◌+◌, ◌*◌, ◌-◌, ◌^◌, ◌/◌, ◌≤◌, ◌<◌}
use native.Mathlib.Omega.{arith}
use native.Mathlib.Nat.{mul-le-mul}
use mathlib.Core.Path.{◌≡◌, ap}
use Rattle.numbers.specs.Fraction.{Fraction, ◌≤ᶠ◌, ◌≈ᶠ◌, ◌+ᶠ◌, negᶠ, ◌-ᶠ◌, ◌*ᶠ◌, whole, ◌/10^◌}
use Rattle.bounds.proofs.Laws.{E-to-2_255, E-cong, exponential-within, exponential_error-2_3}
use Rattle.bounds.specs.Series.{E}
use Rattle.bounds.specs.Enclosure.{WithinAll}
use Rattle.bounds.specs.Exponential.{exponential, exponent}
use Rattle.numbers.proofs.Order.{ratio, ≈-sym}
use Rattle.bounds.proofs.Within.{widen, within-≈, scaled-within, all_map, div_mono}
use Rattle.exact.specs.declared.Season.{Season}
use Rattle.exact.specs.declared.Row.{Row}
use Rattle.sheet.specs.Limits.{vp_limit, tank_limit}
use Rattle.sheet.specs.Range.{SeasonInRange, RowInRange}
use Rattle.marks.proofs.Most.{all_most}
use Rattle.exact.specs.Rise as vapour
use Rattle.factors.specs.Units.{gain}

-- (1 − h/100)·tank·0.025·E(0.0205·vp) of a row in a season
abbrev pub exact_gain : Season → Row → ℕ → Fraction
exact_gain season row n = vapour.gain n (season.vp /10^ 1) (row.fill /10^ 2) (row.tank /10^ 1)

-- 0.0205·vp, vp in tenths of kPa, as it is held
pressure-is : (vp : ℕ) → 205 /10^ 4 *ᶠ vp /10^ 1 ≈ᶠ exponent (205 * vp * 10 ^ 9 + 16 * 10 ^ 14)
unfolding ◌/10^◌ ◌*ᶠ◌
pressure-is vp = omega arith

-- 0.0205·vp ≤ 2.255
pressure-most : (vp : ℕ) → vp ≤ vp_limit → 205 /10^ 4 *ᶠ vp /10^ 1 ≤ᶠ 2255 /10^ 3
unfolding ◌/10^◌ ◌*ᶠ◌
pressure-most vp h = omega arith

-- E(0.0205·vp) within 83
pressure-within : (vp : ℕ) → vp ≤ vp_limit
    → WithinAll (2 ^ 40) (exponential (205 * vp * 10 ^ 9 + 16 * 10 ^ 14)) 83 (λ n. E n (205 /10^ 4 *ᶠ vp /10^ 1))
pressure-within vp h =
    all_map
    (λ n a. widen (within-≈ (E-cong n (≈-sym (pressure-is vp))) a) (exponential_error-2_3 (205 * vp * 10 ^ 9 + 16 * 10 ^ 14) (omega arith)))
    (exponential-within (205 * vp * 10 ^ 9 + 16 * 10 ^ 14) (omega arith))

-- E(2.255) ≤ 9.54
pressure-size : (vp : ℕ) → vp ≤ vp_limit → exponential (205 * vp * 10 ^ 9 + 16 * 10 ^ 14) ≤ 954 * 2 ^ 40 / 100
pressure-size vp h =
    omega (arith, all_most 954 2 (pressure-within vp h) (E-to-2_255 40 (omega arith) (pressure-most vp h)))

forty-thousand-pos : 0 < 40000
forty-thousand-pos = omega arith

-- (1 − h/100)·tank·0.025, for k = 100 − h
share-of : (k fill tank : ℕ) → k + fill ≡ 100
    → (whole 1 -ᶠ fill /10^ 2) *ᶠ tank /10^ 1 *ᶠ 25 /10^ 3 ≈ᶠ ratio (k * tank) 40000 forty-thousand-pos
unfolding whole ◌/10^◌ ◌-ᶠ◌ ◌+ᶠ◌ ◌*ᶠ◌ negᶠ ratio
share-of k fill tank e = omega (arith, ap (λ (t : ℕ). t * tank) e)

-- (1 − h/100)·tank·0.025 = (100 − h)·tank/40000, tank in tenths
share-is : (fill tank : ℕ) → fill ≤ 100
    → (whole 1 -ᶠ fill /10^ 2) *ᶠ tank /10^ 1 *ᶠ 25 /10^ 3 ≈ᶠ ratio ((100 - fill) * tank) 40000 forty-thousand-pos
share-is fill tank h = share-of (100 - fill) fill tank (omega arith)

-- 150,000·83/40,000
share-width : (k tank : ℕ) → k ≤ 100 → tank ≤ tank_limit → k * tank * 83 / 40000 ≤ 311
share-width k tank h l = omega (arith, mul-le-mul h l)

-- 150,000·9.54/40,000
share-size : (k tank e : ℕ) → k ≤ 100 → tank ≤ tank_limit → e ≤ 954 * 2 ^ 40 / 100 → k * tank * e / 40000 ≤ 36 * 2 ^ 40
share-size k tank e h l m = omega (arith, div_mono 40000 forty-thousand-pos (mul-le-mul (mul-le-mul h l) m))

module _ {season : Season} {row : Row} (s : SeasonInRange season) (r : RowInRange season row) where
  -- the gain within 313
  pub gain-within : WithinAll (2 ^ 40) (gain season row) 313 (exact_gain season row)
  unfolding gain
  gain-within =
      all_map
      (λ n a.
      widen (scaled-within ((100 - row.fill) * row.tank) 40000 forty-thousand-pos (share-is row.fill row.tank r.fill-most) a)
      (omega (arith, share-width (100 - row.fill) row.tank (omega arith) r.tank-most)))
      (pressure-within season.vp s.vp-most)

  -- gain ≤ 36
  pub gain-most : gain season row ≤ 36 * 2 ^ 40
  unfolding gain
  gain-most = share-size (100 - row.fill) row.tank _ (omega arith) r.tank-most (pressure-size season.vp s.vp-most)
