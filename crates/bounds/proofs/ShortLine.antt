-- An exponent that is known within a width: what rounding it down costs, from the load that a row starts with to the vapour of an
-- entry. An exponent z is held as x where x/2⁵³ encloses z + 16. Nothing here speaks of E.
-- Assumes nothing.
use mathlib.Core.Path.{◌≡◌, refl}
use Prim.Native.Nat.{ℕ, ◌+◌, ◌*◌, ◌^◌, ◌/◌, ◌≤◌}
use native.Mathlib.Omega.{arith}
use native.Mathlib.Nat.{mul-le-mul_right, mul-le-mul_left, mul-le-mul}
use Rattle.numbers.specs.Fraction.{Fraction, ◌≤ᶠ◌, ◌≈ᶠ◌, ◌+ᶠ◌, ◌*ᶠ◌, whole, ten-pos}
use Rattle.numbers.proofs.Order.{≤_trans, ≈-refl, ≈-sym, ≈-trans, +_comm, +_assoc, +-cong, ratio}
use Rattle.bounds.specs.Series.{two_pos}
use Rattle.bounds.specs.Enclosure.{Within}
use Rattle.bounds.specs.Exponential.{exponent}
use Rattle.bounds.specs.Short.{short_exponent, binary, line_of, line_exponent, reach_of, reach}
pub use Rattle.bounds.specs.Line.{Held}
use Rattle.bounds.proofs.Line.{double-unit-pos, rising, along}
use Rattle.bounds.proofs.Within.{widen, within-≈, ratio-within, +-within, *-within, round-within, div_mono}

-- an equal exponent
pub held-≈ : {x w : ℕ} {z y : Fraction} → z ≈ᶠ y → Held x w z → Held x w y
held-≈ e h = record { raised = within-≈ (+-cong e (≈-refl (whole 16))) h.raised }

-- an exponent of at most 0, and of at most 3, in units of 2⁻⁵³
pub exponent-most-0 : (x : ℕ) → short_exponent x ≤ᶠ whole 0 → x ≤ 16 * 2 ^ 53
unfolding whole
exponent-most-0 x h = omega (arith, h.cross)

pub exponent-most-3 : (x : ℕ) → short_exponent x ≤ᶠ whole 3 → x ≤ 19 * 2 ^ 53
unfolding whole
exponent-most-3 x h = omega (arith, h.cross)

module _ {x w : ℕ} {z : Fraction} (a : Held x w z) where
  -- a held exponent, from below
  pub held-above : short_exponent x ≤ᶠ z
  unfolding ◌+ᶠ◌ whole
  held-above = record { cross = omega (arith, a.raised.above) }

  -- and from above
  pub held_below : z ≤ᶠ short_exponent x +ᶠ ratio w (2 ^ 53) (two_pos 53)
  unfolding ◌+ᶠ◌ whole ratio
  held_below = record { cross = omega (arith, a.raised.below) }

  -- where z is at most 0 or 3, so is what holds it
  pub held-most-0 : z ≤ᶠ whole 0 → x ≤ 16 * 2 ^ 53
  held-most-0 t = exponent-most-0 x (≤_trans held-above t)

  pub held-most-3 : z ≤ᶠ whole 3 → x ≤ 19 * 2 ^ 53
  held-most-3 t = exponent-most-3 x (≤_trans held-above t)

-- What the exponent is made of.

-- (x + 16) + y = (x + y) + 16
last-term : (x y k : Fraction) → x +ᶠ k +ᶠ y ≈ᶠ x +ᶠ y +ᶠ k
last-term x y k = ≈-trans (+_assoc x k y) (≈-trans (+-cong (≈-refl x) (+_comm k y)) (≈-sym (+_assoc x y k)))

-- in a unit 1/k as large
pub finer : {s l w : ℕ} (k : ℕ) {x : Fraction} → Within s l w x → Within (s * k) (l * k) (w * k) x
finer k a = record { above = omega (arith, mul-le-mul_right k a.above); below = omega (arith, mul-le-mul_right k a.below) }

-- z + 16 for an exponent in 10⁻¹⁴
raised_is : (A : ℕ) → ratio A (10 ^ 14) (ten-pos 14) ≈ᶠ exponent A +ᶠ whole 16
unfolding ratio whole ◌+ᶠ◌
raised_is A = omega arith

-- a + 16, cut
base-cut : (A : ℕ) → Within (2 ^ 44) (binary A) 1 (exponent A +ᶠ whole 16)
unfolding binary
base-cut A = within-≈ (raised_is A) (ratio-within A (10 ^ 14) (ten-pos 14) (omega arith) (omega arith))

-- b, cut
pub rising-cut : (K : ℕ) → Within (2 ^ 45) (binary K) 1 (rising K)
unfolding binary
rising-cut K = ratio-within K (2 * 10 ^ 14) double-unit-pos (omega arith) (omega arith)

-- b ≤ 0.242, as it is held
pub binary-most : (K : ℕ) → K ≤ 22 * 2 ^ 41 → binary K ≤ 2 ^ 43
unfolding binary
binary-most K h = omega arith

pub binary-size : (A : ℕ) → A ≤ 10 ^ 15 → binary A ≤ 3 * 2 ^ 46
unfolding binary
binary-size A h = omega arith

-- a + b·m: a and b are each known within a unit of 2⁻⁴⁴, and the product is cut once
pub line-cut : {l w : ℕ} (A K : ℕ) {m : Fraction} → Within (2 ^ 40) l w m
    → Held (line_exponent A K l) ((1 + ((binary K * w + l * 1 + 1 * w) / 2 ^ 41 + 2)) * 2 ^ 9) (along A K m)
unfolding line_exponent along
line-cut A K {m} a =
    let cut = round-within {s = 2 ^ 44} (2 ^ 41) (omega arith) (*-within (rising-cut K) a) in
    record { raised = finer (2 ^ 9) (within-≈ (last-term (exponent A) (rising K *ᶠ m) (whole 16)) (+-within (base-cut A) cut)) }

-- for an m of at most 369 that is known within w
abbrev pub line_width : ℕ → ℕ
line_width w = (4 * w + 189) * 2 ^ 9

pub line-held : {l w : ℕ} (A K : ℕ) {m : Fraction} → K ≤ 22 * 2 ^ 41 → l ≤ 369 * 2 ^ 40 → w ≤ 2 ^ 40 → Within (2 ^ 40) l w m
    → Held (line_exponent A K l) (line_width w) (along A K m)
line-held {l} {w} A K h g k a = record { raised = widen (line-cut A K a).raised (omega (arith, mul-le-mul_right w (binary-most K h))) }

-- b·g for a gain of at most 36 that is known within 313: within six units of 2⁻³⁶
pub reach-within : {g : ℕ} (K : ℕ) {γ : Fraction} → K ≤ 22 * 2 ^ 41 → g ≤ 36 * 2 ^ 40 → Within (2 ^ 40) g 313 γ
    → Within (2 ^ 36) (reach K g) 6 (rising K *ᶠ γ)
unfolding reach
reach-within K h g a =
    widen (round-within {s = 2 ^ 36} (2 ^ 49) (omega arith) (*-within (rising-cut K) a)) (omega (arith, binary-most K h))

-- and at most 9
pub reach-most : (K g : ℕ) → K ≤ 22 * 2 ^ 41 → g ≤ 36 * 2 ^ 40 → reach K g ≤ 9 * 2 ^ 36
unfolding reach
reach-most K g h k = omega (arith, mul-le-mul (binary-most K h) k)

-- z + k·r, for k of at most 9 and r of at most R: one product, cut once
abbrev pub rise_width : ℕ → ℕ → ℕ
rise_width R w = (9 * 2 ^ 36 * w + R * 2 ^ 40 * 6 + 6 * w) / 2 ^ 23 + 2

pub rise-held : {x u k r w : ℕ} (R : ℕ) {z κ ρ : Fraction} → k ≤ 9 * 2 ^ 36 → r ≤ R * 2 ^ 40 → Held x u z
    → Within (2 ^ 36) k 6 κ → Within (2 ^ 40) r w ρ
    → Held (x + k * r / 2 ^ 23) (u + rise_width R w) (z +ᶠ κ *ᶠ ρ)
rise-held {x} {u} {k} {r} {w} R {z} {κ} {ρ} h g hz hk hr =
    let wide : k * w + r * 6 + 6 * w ≤ 9 * 2 ^ 36 * w + R * 2 ^ 40 * 6 + 6 * w = omega (arith, mul-le-mul_right w h) in
    let part = widen {v = rise_width R w} (round-within {s = 2 ^ 53} (2 ^ 23) (omega arith) (*-within hk hr))
    (omega (arith, div_mono (2 ^ 23) (omega arith) wide)) in
    record { raised = within-≈ (last-term z (κ *ᶠ ρ) (whole 16)) (+-within hz.raised part) }

-- the held exponent grows with m
pub line-mono : {l m : ℕ} (a k : ℕ) → l ≤ m → line_of a k l ≤ line_of a k m
line-mono a k h = omega (arith, div_mono (2 ^ 41) (omega arith) (mul-le-mul_left k h))

pub line_exponent-mono : {l m : ℕ} (A K : ℕ) → l ≤ m → line_exponent A K l ≤ line_exponent A K m
unfolding line_exponent
line_exponent-mono A K h = line-mono (binary A) (binary K) h

-- what these are, from a and 2·b in units of 2⁻⁴⁴
pub line_exponent-is : (A K m : ℕ) → line_exponent A K m ≡ line_of (binary A) (binary K) m
unfolding line_exponent
line_exponent-is A K m = refl

pub reach-is : (K g : ℕ) → reach K g ≡ reach_of (binary K) g
unfolding reach
reach-is K g = refl
