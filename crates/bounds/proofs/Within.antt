-- The calculus of enclosures: a computed whole number with its width encloses the sum, the product, the multiple and the part of
-- values that are enclosed themselves.
use Prim.Native.Nat.{ℕ, suc, zero, ◌+◌, ◌*◌, ◌-◌, ◌^◌, ◌/◌, ◌≤◌, ◌<◌}
use native.Mathlib.Omega.{arith}
use native.Mathlib.Nat.{mul-le-mul_right, mul-le-mul_left, mul-le-mul, mul-pos, le_of_mul-le-mul_right, le_dest}
use native.Mathlib.Nat.{div-mul-le_self, lt-div-mul-add, le-div_iff_mul-le}
use mathlib.Core.Path.{ap}
use Rattle.numbers.specs.Fraction.{Fraction, ◌≤ᶠ◌, ◌≈ᶠ◌, ◌+ᶠ◌, negᶠ, ◌-ᶠ◌, ◌*ᶠ◌, whole, ◌/10^◌, ten-pos, ◌over◌, ◌times◌}
use Rattle.bounds.specs.Enclosure.{Within, WithinAll}
use Rattle.numbers.proofs.Order.{NonNegative, via, sub-mul, idle, ratio, ≈-refl, ≈-sym, *-cong, decimal-is}

-- ⌊a/k⌋ grows with a. Of std's lemmas on quotients none says this.
pub div_mono : {a b : ℕ} (k : ℕ) → 0 < k → a ≤ b → a / k ≤ b / k
div_mono {a} {b} k p h = (le-div_iff_mul-le p).1 (omega (arith, div-mul-le_self a k))

-- A wider enclosure, and another fraction of the same value.

-- a larger width
pub widen : {s l w v : ℕ} {x : Fraction} → Within s l w x → w ≤ v → Within s l v x
widen {x = x} e h = omega (arith, mul-le-mul_right x.den h)

-- a lower bound below, an upper bound above
pub weaken : {s l w m v : ℕ} {x : Fraction} → Within s l w x → m ≤ l → l + w ≤ m + v → Within s m v x
weaken {x = x} e h k = omega (arith, mul-le-mul_right x.den h, mul-le-mul_right x.den k)

-- an equal value
pub within-≈ : {s l w : ℕ} {x y : Fraction} → x ≈ᶠ y → Within s l w x → Within s l w y
within-≈ {s} {x = x} {y = y} e a = record {
  above = le_of_mul-le-mul_right {k = x.den} (omega (arith, mul-le-mul_right y.den a.above, ap (λ (t : ℕ). t * s) e.cross)) x.pos;
  below = le_of_mul-le-mul_right {k = x.den} (omega (arith, mul-le-mul_right y.den a.below, ap (λ (t : ℕ). t * s) e.cross)) x.pos;
}

-- Enclosures and the order of fractions.

-- l/s ≤ x
pub within-above : {s l w : ℕ} {x : Fraction} (p : 0 < s) → Within s l w x → ratio l s p ≤ᶠ x
unfolding ratio
within-above p a = record { cross = omega (arith, a.above) }

-- x ≤ (l + w)/s
pub within-below : {s l w : ℕ} {x : Fraction} (p : 0 < s) → Within s l w x → x ≤ᶠ ratio (l + w) s p
unfolding ratio
within-below p a = record { cross = omega (arith, a.below) }

-- and back
pub within-from : {s l w : ℕ} {x : Fraction} (p : 0 < s) → ratio l s p ≤ᶠ x → x ≤ᶠ ratio (l + w) s p → Within s l w x
unfolding ratio
within-from p a b = record { above = omega (arith, a.cross); below = omega (arith, b.cross) }

-- values in order have bounds in order
pub within-cross : {s l w m v : ℕ} {x y : Fraction} → Within s l w x → Within s m v y → x ≤ᶠ y → l ≤ m + v
within-cross {s} {l} {w} {m} {v} {x} {y} a b h =
    le_of_mul-le-mul_right {k = x.den * y.den}
    (omega (
      arith,
      mul-le-mul_right y.den a.above,
      mul-le-mul_right x.den b.below,
      mul-le-mul_right s h.cross,
    )) (mul-pos x.pos y.pos)

-- an enclosed value is at most a decimal number that its upper bound does not pass
pub within-≤-decimal : {s l w : ℕ} {x : Fraction} (k places : ℕ) → 0 < s → Within s l w x → (l + w) * 10 ^ places ≤ k * s
    → x ≤ᶠ k /10^ places
unfolding ◌/10^◌
within-≤-decimal {s} {x = x} k places p a h = record {
  cross =
      le_of_mul-le-mul_right {k = s} (omega (arith, mul-le-mul_right (10 ^ places) a.below, mul-le-mul_right x.den h)) p;
}

-- and at least one that its lower bound reaches
pub decimal-≤-within : {s l w : ℕ} {x : Fraction} (k places : ℕ) → 0 < s → Within s l w x → k * s ≤ l * 10 ^ places → k /10^ places ≤ᶠ x
unfolding ◌/10^◌
decimal-≤-within {s} {x = x} k places p a h = record {
  cross =
      le_of_mul-le-mul_right {k = s} (omega (arith, mul-le-mul_right (10 ^ places) a.above, mul-le-mul_right x.den h)) p;
}

-- an enclosed value is 0 or more
pub within-NonNegative : {s l w : ℕ} {x : Fraction} → 0 < s → Within s l w x → NonNegative x
within-NonNegative {s} {x = x} p a =
    record { nonneg = le_of_mul-le-mul_right {k = s} (omega (arith, a.above)) p }

-- Constants.

-- a/b between its bounds
pub ratio-within : {s l w : ℕ} (a b : ℕ) (p : 0 < b) → l * b ≤ a * s → a * s ≤ (l + w) * b → Within s l w (ratio a b p)
unfolding ratio
ratio-within a b p h k = omega arith

-- a/b cut downwards
ratio-cut : (s a b : ℕ) (p : 0 < b) → Within s (a * s / b) 1 (ratio a b p)
ratio-cut s a b p =
    ratio-within a b p (div-mul-le_self (a * s) b) (omega (arith, lt-div-mul-add {a = a * s} p))

-- a decimal number cut downwards
pub decimal-cut : (s k places : ℕ) → Within s (k * s / 10 ^ places) 1 (k /10^ places)
decimal-cut s k places = within-≈ (≈-sym (decimal-is k places)) (ratio-cut s k (10 ^ places) (ten-pos places))

-- a decimal number between its bounds
pub decimal-within : {s l w : ℕ} (k places : ℕ) → l * 10 ^ places ≤ k * s → k * s ≤ (l + w) * 10 ^ places → Within s l w (k /10^ places)
decimal-within k places h g = within-≈ (≈-sym (decimal-is k places)) (ratio-within k _ (ten-pos places) h g)

-- a whole number
pub whole-within : (s k : ℕ) → Within s (k * s) 0 (whole k)
unfolding whole
whole-within s k = omega arith

-- Sums, differences and multiples.

-- x + y: bounds and widths add
pub +-within : {s l w m v : ℕ} {x y : Fraction} → Within s l w x → Within s m v y → Within s (l + m) (w + v) (x +ᶠ y)
unfolding ◌+ᶠ◌
+-within {x = x} {y = y} a b =
    omega (
      arith,
      mul-le-mul_right y.den a.above,
      mul-le-mul_right x.den b.above,
      mul-le-mul_right y.den a.below,
      mul-le-mul_right x.den b.below,
    )

-- x − y where y ≤ x: the difference of the bounds less the width of y
pub sub_within : {s l w m v : ℕ} {x y : Fraction} → y ≤ᶠ x → Within s l w x → Within s m v y → Within s (l - m - v) (w + v) (x -ᶠ y)
unfolding ◌-ᶠ◌ ◌+ᶠ◌ negᶠ
sub_within {s} {l} {w} {m} {v} {x} {y} h a b =
    let g : l + w ≤ m + (l - m - v + (w + v)) = omega arith in
    record {
      above =
          simp sub-mul (omega (arith, mul-le-mul_right y.den a.above, mul-le-mul_right x.den b.below, mul-le-mul_right s h.cross));
      below =
          omega (arith, mul-le-mul_right y.den a.below, mul-le-mul_right x.den b.above, mul-le-mul_right (x.den * y.den) g);
    }

-- k·x: bound and width k times
pub times-within : {s l w : ℕ} (k : ℕ) {x : Fraction} → Within s l w x → Within s (k * l) (k * w) (k times x)
unfolding whole ◌times◌
times-within zero a = omega arith
times-within (suc k) a = omega (arith, mul-le-mul_left (suc k) a.above, mul-le-mul_left (suc k) a.below)

-- Roundings: each cut costs two units of the coarser scale at most.

-- from the scale s·k to the scale s
pub round-within : {s l w : ℕ} (k : ℕ) {x : Fraction} → 0 < k → Within (s * k) l w x → Within s (l / k) (w / k + 2) x
round-within {s} {l} {w} k {x} p a = record {
  above =
      le_of_mul-le-mul_right {k = k} (omega (arith, a.above, mul-le-mul_right x.den (div-mul-le_self l k))) p;
  below =
      le_of_mul-le-mul_right {k = k}
      (omega (
        arith,
        a.below,
        mul-le-mul_right x.den (lt-div-mul-add {a = l} p),
        mul-le-mul_right x.den (lt-div-mul-add {a = w} p),
      )) p;
}

-- x/k in the scale s·k
pub over-within-scaled : {s l w : ℕ} (k : ℕ) {x : Fraction} → 0 < k → Within s l w x → Within (s * k) l w (x over k)
unfolding ◌over◌
over-within-scaled {s} {l} {w} k {x} p a = record {
  above = rw (idle p) (omega (arith, mul-le-mul_right k a.above));
  below = rw (idle p) (omega (arith, mul-le-mul_right k a.below));
}

-- x/k
pub over-within : {s l w : ℕ} (k : ℕ) {x : Fraction} → 0 < k → Within s l w x → Within s (l / k) (w / k + 2) (x over k)
over-within k p a = round-within k p (over-within-scaled k p a)

-- Products.

-- a·c − a·d − b·c + b·d at least L·M, for a − b ≥ L and c − d ≥ M
mul-above : (b d L M : ℕ) {a c : ℕ} → L + b ≤ a → M + d ≤ c → L * M + (a * d + b * c) ≤ a * c + b * d
mul-above b d L M h k =
    let (u, e) = le_dest h in
    let (v, f) = le_dest k in
    rw (← e, ← f) (omega arith)

-- and at most H·K, for a − b ≤ H and c − d ≤ K
mul-below : (H K : ℕ) {a b c d : ℕ} → b ≤ a → a ≤ H + b → d ≤ c → c ≤ K + d → a * c + b * d ≤ H * K + (a * d + b * c)
mul-below H K {b = b} {d = d} h h' k k' =
    let (u, e) = le_dest h in
    let (v, f) = le_dest k in
    let g : u ≤ H = omega arith in
    let i : v ≤ K = omega arith in
    rw (← e, ← f) (omega (arith, mul-le-mul g i))

-- x·y: scales and bounds multiply
pub *-within : {s t l w m v : ℕ} {x y : Fraction} → Within s l w x → Within t m v y
    → Within (s * t) (l * m) (l * v + m * w + w * v) (x *ᶠ y)
unfolding ◌*ᶠ◌
*-within {l = l} {w = w} {m = m} {v = v} {x = x} {y = y} a b = record {
  above = via (mul-above _ _ _ _ a.above b.above) (omega arith) (omega arith);
  below = via (mul-below _ _ (omega arith) a.below (omega arith) b.below) (omega arith) (omega arith);
}

-- x·y cut to the scale of x, for l ≤ B and m ≤ C
pub *-within-rounded : {s t l w m v : ℕ} (B C : ℕ) {x y : Fraction} → 0 < t → l ≤ B → m ≤ C → Within s l w x → Within t m v y
    → Within s (l * m / t) ((B * v + C * w + w * v) / t + 2) (x *ᶠ y)
*-within-rounded {t = t} {l = l} {w = w} {m = m} {v = v} B C p h k a b =
    let g : l * v + m * w + w * v ≤ B * v + C * w + w * v = omega (arith, mul-le-mul_right v h, mul-le-mul_right w k) in
    widen (round-within t p (*-within a b)) (omega (arith, div_mono t p g))

-- (a/b)·x in the scale s·b
ratio-times-within : {s l w : ℕ} (a b : ℕ) (p : 0 < b) {x : Fraction} → Within s l w x → Within (s * b) (a * l) (a * w) (ratio a b p *ᶠ x)
unfolding ratio ◌*ᶠ◌
ratio-times-within a b p h = omega (arith, mul-le-mul_left (a * b) h.above, mul-le-mul_left (a * b) h.below)

-- c·x for a fraction c = a/b
pub scaled-within : {s l w : ℕ} (a b : ℕ) (p : 0 < b) {c x : Fraction} → c ≈ᶠ ratio a b p → Within s l w x
    → Within s (a * l / b) (a * w / b + 2) (c *ᶠ x)
scaled-within a b p {x = x} e h =
    within-≈ (*-cong (≈-sym e) (≈-refl x)) (round-within b p (ratio-times-within a b p h))

-- For every n from 40 upward: a law at each n is one at all.

-- a law of one value
pub all_map : {s l w t m v : ℕ} {x y : ℕ → Fraction} → ((n : ℕ) → Within s l w (x n) → Within t m v (y n)) → WithinAll s l w x
    → WithinAll t m v y
all_map f a = record { at = λ n h. f n (a.at n h) }

-- a law of two values
pub all-map₂ : {s l w t m v u k z : ℕ} {x y g : ℕ → Fraction} → ((n : ℕ) → Within s l w (x n) → Within t m v (y n) → Within u k z (g n))
    → WithinAll s l w x → WithinAll t m v y → WithinAll u k z g
all-map₂ f a b = record { at = λ n h. f n (a.at n h) (b.at n h) }

-- an enclosed value that does not depend on n
pub all-constant : {s l w : ℕ} {x : Fraction} → Within s l w x → WithinAll s l w (λ n. x)
all-constant a = record { at = λ n h. a }
