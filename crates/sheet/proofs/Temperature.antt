-- The temperatures of a season as whole numbers: tenths of °C above −30 °C, and at a mark units of 10⁻¹⁰ °C above it.
-- Assumes nothing.
use mathlib.Core.Path.{◌≡◌, refl}
use Prim.Native.Nat.{ℕ, ◌+◌, ◌*◌, ◌-◌, ◌^◌, ◌/◌, ◌≤◌, ◌<◌}
use native.Mathlib.Omega.{arith}
use native.Mathlib.Nat.{le_dest, add-sub_cancel_left, mul-le-mul_left}
use native.Mathlib.Decide.{dec_le}
use Rattle.numbers.specs.Fraction.{Fraction, ◌≤ᶠ◌, ◌≈ᶠ◌, ◌+ᶠ◌, ◌-ᶠ◌, negᶠ, ◌*ᶠ◌, ◌/10^◌, ten-pos}
use Rattle.bounds.specs.Power.{degrees}
use Rattle.numbers.proofs.Order.{≈-refl, ≈-trans, ≤-by, ≤_trans, ≈-sym, +-cong, sub-cong, *-cong}
use Rattle.exact.specs.declared.Season.{Season}
use Rattle.bounds.specs.Weights.{w, apart}
use Rattle.bounds.specs.Ahead.{ahead}
use Rattle.bounds.proofs.Laws.{w-most, apart-alike}
use Rattle.exact.specs.Day.{signed_tenths, temperature}
use Rattle.sheet.specs.Limits.{cold_limit, warm_limit, vp_limit}
use Rattle.sheet.specs.Range.{warmth, warmth_limit, mark_warmth, SeasonInRange}

-- k tenths above −30 °C
unfoldable pub above_coldest : ℕ → Fraction
above_coldest k = record { up = k; down = cold_limit; den = 10; pos = ten-pos 1 }

-- a number of 16 bits that stands for −30 to 50 °C has a warmth of 0 to 800
range-most : (v : ℕ) → v < 65536 → negᶠ (cold_limit /10^ 1) ≤ᶠ signed_tenths v → signed_tenths v ≤ᶠ warm_limit /10^ 1 → warmth v ≤ warmth_limit
unfolding signed_tenths negᶠ ◌/10^◌
range-most v h cold warm =
    elim (dec_le 32768 v) [
      | yes l ↦
          let q : v / 32768 ≡ 1 = omega arith in
          let c : 65236 ≤ v = omega (arith, cold.cross) in
          omega arith
      | no l ↦
          let q : v / 32768 ≡ 0 = omega arith in
          let c : v ≤ 500 = omega (arith, warm.cross) in
          omega arith
    ]

-- and stands for that many tenths above −30 °C
pub signed_is : (v : ℕ) → v < 65536 → warmth v ≤ warmth_limit → signed_tenths v ≈ᶠ above_coldest (warmth v)
unfolding signed_tenths above_coldest
signed_is v h k = record { cross = omega arith }

-- fewer tenths are colder, and back
above-order : (j k : ℕ) → above_coldest j ≤ᶠ above_coldest k → j ≤ k
unfolding above_coldest
above-order j k h = omega (arith, h.cross)

above-mono : (j k : ℕ) → j ≤ k → above_coldest j ≤ᶠ above_coldest k
unfolding above_coldest
above-mono j k h = omega arith

-- The three comparisons of document 01, for numbers of 16 bits, are two of their warmth:
pub warmth-range : {l h : ℕ} → l < 65536 → h < 65536 → negᶠ (cold_limit /10^ 1) ≤ᶠ signed_tenths l → signed_tenths l ≤ᶠ signed_tenths h
    → signed_tenths h ≤ᶠ warm_limit /10^ 1 → (warmth l ≤ warmth h) × (warmth h ≤ warmth_limit)
warmth-range {l} {h} lb hb cold order warm =
    let low : warmth l ≤ warmth_limit = range-most l lb cold (≤_trans order warm) in
    let high : warmth h ≤ warmth_limit = range-most h hb (≤_trans cold order) warm in
    (above-order (warmth l) (warmth h) (≤-by (≈-sym (signed_is l lb low)) (≈-sym (signed_is h hb high)) order), high)

-- −30 °C is the least,
pub signed-cold : {v : ℕ} → v < 65536 → warmth v ≤ warmth_limit → negᶠ (cold_limit /10^ 1) ≤ᶠ signed_tenths v
unfolding negᶠ ◌/10^◌ above_coldest
signed-cold {v} b m =
    ≤-by {x' = above_coldest 0} (record { cross = refl }) (signed_is v b m) (above-mono 0 (warmth v) (omega arith))

-- temperatures are ordered as their warmth,
pub signed-mono : {v u : ℕ} → v < 65536 → u < 65536 → warmth v ≤ warmth u → warmth u ≤ warmth_limit → signed_tenths v ≤ᶠ signed_tenths u
signed-mono {v} {u} vb ub h m = ≤-by (signed_is v vb (omega arith)) (signed_is u ub m) (above-mono (warmth v) (warmth u) h)

-- and 50 °C is the most
pub signed-warm : {v : ℕ} → v < 65536 → warmth v ≤ warmth_limit → signed_tenths v ≤ᶠ warm_limit /10^ 1
unfolding ◌/10^◌ above_coldest
signed-warm {v} b m =
    ≤-by {y' = above_coldest warmth_limit} (signed_is v b m) (record { cross = refl }) (above-mono (warmth v) warmth_limit m)

-- a season of 16-bit temperatures that meets them, and the most of vp, is in range
pub season-in-range : {season : Season} → season.lowest < 65536 → season.highest < 65536
    → negᶠ (cold_limit /10^ 1) ≤ᶠ signed_tenths season.lowest → signed_tenths season.lowest ≤ᶠ signed_tenths season.highest
    → signed_tenths season.highest ≤ᶠ warm_limit /10^ 1 → season.vp ≤ vp_limit → SeasonInRange season
season-in-range l h cold o w vp =
    let (order, warm) = warmth-range l h cold o w in
    record { lowest-bits = l; highest-bits = h; order = order; warm = warm; vp-most = vp }

-- the warmth between two ends, d tenths apart
between : (l d k : ℕ) → above_coldest l +ᶠ (above_coldest (l + d) -ᶠ above_coldest l) *ᶠ k /10^ 9 ≈ᶠ degrees (l * 10 ^ 9 + d * k)
unfolding above_coldest ◌+ᶠ◌ ◌-ᶠ◌ negᶠ ◌*ᶠ◌ ◌/10^◌
between l d k = record { cross = omega arith }

-- the same from the two ends
between_ends : (l u k : ℕ) → l ≤ u → above_coldest l +ᶠ (above_coldest u -ᶠ above_coldest l) *ᶠ k /10^ 9 ≈ᶠ degrees (l * 10 ^ 9 + (u - l) * k)
between_ends l u k h =
    let (d, e) = le_dest h in
    rw (← e, add-sub_cancel_left) (between l d k)

-- T(i) is that many degrees
pub temperature-is : {season : Season} (i : ℕ) → SeasonInRange season → temperature season i ≈ᶠ degrees (mark_warmth season i)
unfolding temperature mark_warmth
temperature-is {season} i t =
    let lo : signed_tenths season.lowest ≈ᶠ above_coldest (warmth season.lowest) = signed_is season.lowest t.lowest-bits (omega arith) in
    let hi : signed_tenths season.highest ≈ᶠ above_coldest (warmth season.highest) = signed_is season.highest t.highest-bits t.warm in
    ≈-trans (+-cong lo (*-cong (sub-cong hi lo) (≈-refl (w i /10^ 9))))
    (between_ends (warmth season.lowest) (warmth season.highest) (w i) t.order)

-- it is at most the highest temperature's
pub warmth-below-highest : {season : Season} (i : ℕ) → SeasonInRange season → mark_warmth season i ≤ warmth season.highest * 10 ^ 9
unfolding mark_warmth
warmth-below-highest {season} i t =
    let (d, e) = le_dest t.order in
    rw (← e, add-sub_cancel_left) (omega (arith, mul-le-mul_left d (w-most i)))

-- that is, at most 50 °C
pub warmth-most : {season : Season} (i : ℕ) → SeasonInRange season → mark_warmth season i ≤ 80 * 10 ^ 10
warmth-most i t = omega (arith, warmth-below-highest i t, t.warm)

-- marks as far from 14:00 have one temperature
pub warmth-alike : (season : Season) (i : ℕ) → i < 48 → mark_warmth season (ahead (apart i)) ≡ mark_warmth season i
unfolding mark_warmth
warmth-alike season i h = rw (apart-alike i h)

-- θ ≤ θ' gives θ·10⁻¹⁰ − 30 ≤ θ'·10⁻¹⁰ − 30
pub degrees-mono : {θ θ' : ℕ} → θ ≤ θ' → degrees θ ≤ᶠ degrees θ'
degrees-mono h = omega arith
