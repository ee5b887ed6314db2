-- The laws of fractions: their order, the values they share, and what each operation does to both.
use mathlib.Core.Bool.{Bool, true, false, not}
use mathlib.Core.Path.{◌≡◌, refl, ap, sym, subst}
use Prim.Native.Nat.{ℕ, suc, zero, ◌+◌, ◌*◌, ◌-◌, ◌^◌, ◌≤◌, ◌<◌, max}
use native.Mathlib.Decide.{dec_le}
use native.Mathlib.Omega.{arith}
use native.Mathlib.Nat.{mul_comm, mul_assoc, mul_left_comm, mul-add, add-mul, add_comm, add_assoc, add_left_comm}
use native.Mathlib.Nat.{mul-le-mul_right, mul-le-mul_left, le_of_mul-le-mul_right, le_dest, add-le-add, mul-sub}
use native.Mathlib.Nat.{mul-pos, le_of_lt}
use lib.Dec.{T, leb→le, nleb→lt}
use Rattle.numbers.specs.Fraction.{Fraction, ◌≤ᶠ◌, ◌<ᶠ◌, ◌≈ᶠ◌, ◌≤?◌, ◌+ᶠ◌, negᶠ, ◌-ᶠ◌, ◌*ᶠ◌, whole, ◌^ᶠ◌, ◌/10^◌}
use Rattle.numbers.specs.Fraction.{ten-pos, ◌over◌, inverse, ◌times◌}
unfoldable pub use Rattle.numbers.specs.Fraction.{ratio}

-- what brings a sum of products of natural numbers into one form
pub ruleset ring = (mul_comm, mul_assoc, mul_left_comm, mul-add, add-mul, add_comm, add_assoc, add_left_comm)

-- an order between natural numbers known in another form
pub via : {a b a' b' : ℕ} → a' ≤ b' → a ≡ a' → b ≡ b' → a ≤ b
via h e f = omega arith

-- (m − n)·k = m·k − n·k: std's `mul-sub` has the factor on the left, and `simp` needs it on the right.
pub sub-mul : (m n k : ℕ) → (m - n) * k ≡ m * k - n * k
sub-mul m n k = rw (mul_comm (m - n) k, mul-sub, mul_comm k m, mul_comm k n)

-- The order and equality of values.

-- x ≤ x
pub ≤-refl : (x : Fraction) → x ≤ᶠ x
≤-refl x = omega arith

-- x ≤ y ≤ z gives x ≤ z
pub ≤_trans : {x y z : Fraction} → x ≤ᶠ y → y ≤ᶠ z → x ≤ᶠ z
≤_trans {x} {y} {z} h k = record {
  cross =
      le_of_mul-le-mul_right {k = y.den} (omega (arith, mul-le-mul_right z.den h.cross, mul-le-mul_right x.den k.cross)) y.pos;
}

-- x ≤ y ≤ x gives x = y
pub ≤-antisym : {x y : Fraction} → x ≤ᶠ y → y ≤ᶠ x → x ≈ᶠ y
≤-antisym h k = omega arith

-- x = x
pub ≈-refl : (x : Fraction) → x ≈ᶠ x
≈-refl x = omega arith

-- x = y gives y = x
pub ≈-sym : {x y : Fraction} → x ≈ᶠ y → y ≈ᶠ x
≈-sym h = omega arith

-- x = y gives x ≤ y
pub ≈→≤ : {x y : Fraction} → x ≈ᶠ y → x ≤ᶠ y
≈→≤ h = omega arith

-- x = y gives y ≤ x
pub ≈→≥ : {x y : Fraction} → x ≈ᶠ y → y ≤ᶠ x
≈→≥ h = omega arith

-- x = y = z gives x = z
pub ≈-trans : {x y z : Fraction} → x ≈ᶠ y → y ≈ᶠ z → x ≈ᶠ z
≈-trans h k = ≤-antisym (≤_trans (≈→≤ h) (≈→≤ k)) (≤_trans (≈→≥ k) (≈→≥ h))

-- an order between values known as other fractions
pub ≤-by : {x y x' y' : Fraction} → x ≈ᶠ x' → y ≈ᶠ y' → x' ≤ᶠ y' → x ≤ᶠ y
≤-by e f h = ≤_trans (≈→≤ e) (≤_trans h (≈→≥ f))

-- equality of values known as other fractions
pub ≈-by : {x y x' y' : Fraction} → x ≈ᶠ x' → y ≈ᶠ y' → x' ≈ᶠ y' → x ≈ᶠ y
≈-by e f h = ≈-trans e (≈-trans h (≈-sym f))

-- x < y gives x ≤ y
pub <→≤ : {x y : Fraction} → x <ᶠ y → x ≤ᶠ y
<→≤ h = omega arith

-- what is not at most y is above y
pub not-≤→< : {x y : Fraction} → ¬ (x ≤ᶠ y) → y <ᶠ x
not-≤→< {x} {y} h =
    elim (dec_le (x.up * y.den + y.down * x.den) (y.up * x.den + x.down * y.den)) [
      | yes l ↦ absurd (h (record { cross = l }))
      | no l ↦ omega arith
    ]

-- of two values one is at most the other
pub either : {P : Type 0} (x y : Fraction) → (x ≤ᶠ y → P) → (y ≤ᶠ x → P) → P
either x y f g =
    elim (dec_le (x.up * y.den + y.down * x.den) (y.up * x.den + x.down * y.den)) [
      | yes l ↦ f (record { cross = l })
      | no l ↦ g (omega arith)
    ]

-- The comparison as a test.

-- the test passes only where x ≤ y
passes : {x y : Fraction} → T (x ≤? y) → x ≤ᶠ y
unfolding ◌≤?◌
passes t = record { cross = leb→le _ _ t }

-- and fails only where not
pub fails : {x y : Fraction} → T (not (x ≤? y)) → ¬ (x ≤ᶠ y)
unfolding ◌≤?◌
fails {x} {y} t l =
    omega (arith, nleb→lt (x.up * y.den + y.down * x.den) (y.up * x.den + x.down * y.den) t, l.cross)

-- a statement about the test's value holds if it holds at true where x ≤ y, and at false where not
pub test-cases : (P : Bool → Type 0) (x y : Fraction) → (x ≤ᶠ y → P true) → (¬ (x ≤ᶠ y) → P false) → P (x ≤? y)
test-cases P x y f g = go (x ≤? y) refl
  where
    go : (c : Bool) → (x ≤? y) ≡ c → P c
    go true e = f (passes {x = x} {y = y} (subst T (sym e) tt))
    go false e = g (fails {x = x} {y = y} (subst (λ (c : Bool). T (not c)) (sym e) tt))

-- it passes where x ≤ y
pub test-true : {x y : Fraction} → x ≤ᶠ y → (x ≤? y) ≡ true
test-true {x} {y} h = test-cases (λ (c : Bool). c ≡ true) x y (λ _. refl) (λ n. absurd (n h))

-- and fails where not
pub test-false : {x y : Fraction} → ¬ (x ≤ᶠ y) → (x ≤? y) ≡ false
test-false {x} {y} n = test-cases (λ (c : Bool). c ≡ false) x y (λ h. absurd (n h)) (λ _. refl)

-- equal values give equal tests
pub test-cong : {x x' y y' : Fraction} → x ≈ᶠ x' → y ≈ᶠ y' → (x ≤? y) ≡ (x' ≤? y')
test-cong {x} {x'} {y} {y'} e f =
    test-cases (λ (c : Bool). c ≡ (x' ≤? y')) x y (λ h. sym (test-true (≤-by (≈-sym e) (≈-sym f) h)))
    (λ n. sym (test-false {x = x'} {y = y'} (λ h. n (≤-by e f h))))

-- Signs.

-- 0 ≤ x
pub record NonNegative (x : Fraction) : Type 0 where
  pub nonneg : x.down ≤ x.up

-- 0 < x
pub record Positive (x : Fraction) : Type 0 where
  pub gt : x.down < x.up

-- 0 < x gives 0 ≤ x
pub positive→NonNegative : {x : Fraction} → Positive x → NonNegative x
positive→NonNegative h = omega arith

-- from the order between fractions
pub non_negative : {x : Fraction} → whole 0 ≤ᶠ x → NonNegative x
unfolding whole
non_negative h = record { nonneg = omega (arith, h.cross) }

-- and back
pub NonNegative→≤ : {x : Fraction} → NonNegative x → whole 0 ≤ᶠ x
unfolding whole
NonNegative→≤ h = record { cross = omega (arith, h.nonneg) }

-- a value below 0 has a positive negation
pub neg-positive : {x : Fraction} → ¬ (whole 0 ≤ᶠ x) → Positive (negᶠ x)
unfolding negᶠ whole
neg-positive {x} h = record {
  gt =
      elim (dec_le x.down x.up) [
        | yes l ↦ absurd (h (record { cross = omega arith }))
        | no l ↦ omega arith
      ];
}

-- what is at least a positive value is positive
positive-up : {x y : Fraction} → x ≤ᶠ y → Positive x → Positive y
positive-up {x} {y} h p = record {
  gt =
      elim (dec_le y.up y.down) [
        | yes l ↦ absurd (omega (arith, h.cross, mul-le-mul_right x.den l, mul-le-mul_right y.den p.gt, y.pos))
        | no l ↦ omega arith
      ];
}

-- an equal value has the same sign
pub positive-cong : {x y : Fraction} → x ≈ᶠ y → Positive x → Positive y
positive-cong h p = positive-up (≈→≤ h) p

-- what is at least a value of 0 or more is 0 or more
pub NonNegative-up : {x y : Fraction} → x ≤ᶠ y → NonNegative x → NonNegative y
NonNegative-up h p = non_negative (≤_trans (NonNegative→≤ p) h)

-- a whole number is 0 or more
pub whole-NonNegative : (k : ℕ) → NonNegative (whole k)
unfolding whole
whole-NonNegative k = omega arith

-- a decimal number is 0 or more
pub decimal-NonNegative : (k places : ℕ) → NonNegative (k /10^ places)
unfolding ◌/10^◌
decimal-NonNegative k places = omega arith

-- The sum.

-- a sum grows with its parts
pub +-mono : {x x' y y' : Fraction} → x ≤ᶠ x' → y ≤ᶠ y' → x +ᶠ y ≤ᶠ x' +ᶠ y'
unfolding ◌+ᶠ◌
+-mono {x} {x'} {y} {y'} h k = record {
  cross =
      via
      (add-le-add (mul-le-mul_right (y.den * y'.den) h.cross) (mul-le-mul_right (x.den * x'.den) k.cross))
      (simp ring) (simp ring);
}

-- equal parts have equal sums
pub +-cong : {x x' y y' : Fraction} → x ≈ᶠ x' → y ≈ᶠ y' → x +ᶠ y ≈ᶠ x' +ᶠ y'
+-cong h k = ≤-antisym (+-mono (≈→≤ h) (≈→≤ k)) (+-mono (≈→≥ h) (≈→≥ k))

-- x + y = y + x
pub +_comm : (x y : Fraction) → x +ᶠ y ≈ᶠ y +ᶠ x
unfolding ◌+ᶠ◌
+_comm x y = record { cross = simp ring }

-- (x + y) + z = x + (y + z)
pub +_assoc : (x y z : Fraction) → x +ᶠ y +ᶠ z ≈ᶠ x +ᶠ (y +ᶠ z)
unfolding ◌+ᶠ◌
+_assoc x y z = record { cross = simp ring }

-- (x + y) + (z + w) = (x + z) + (y + w)
pub +-exchange : (x y z w : Fraction) → x +ᶠ y +ᶠ (z +ᶠ w) ≈ᶠ x +ᶠ z +ᶠ (y +ᶠ w)
unfolding ◌+ᶠ◌
+-exchange x y z w = record { cross = simp ring }

-- x + 0 = x
pub +-zero : (x : Fraction) → x +ᶠ whole 0 ≈ᶠ x
unfolding ◌+ᶠ◌ whole
+-zero x = omega arith

-- 0 ≤ x, y gives 0 ≤ x + y
pub +-NonNegative : {x y : Fraction} → NonNegative x → NonNegative y → NonNegative (x +ᶠ y)
unfolding ◌+ᶠ◌
+-NonNegative {x} {y} h k =
    record { nonneg = omega (arith, mul-le-mul_right y.den h.nonneg, mul-le-mul_right x.den k.nonneg) }

-- x ≤ x + y where 0 ≤ y
pub +-grows : (x : Fraction) {y : Fraction} → NonNegative y → x ≤ᶠ x +ᶠ y
unfolding ◌+ᶠ◌
+-grows x {y} h = omega (arith, mul-le-mul_left (x.den * x.den) h.nonneg)

-- Negation and difference.

-- x ≤ y gives −y ≤ −x
neg-antitone : {x y : Fraction} → x ≤ᶠ y → negᶠ y ≤ᶠ negᶠ x
unfolding negᶠ
neg-antitone h = omega arith

-- equal values have equal negations
pub neg-cong : {x y : Fraction} → x ≈ᶠ y → negᶠ x ≈ᶠ negᶠ y
unfolding negᶠ
neg-cong h = omega arith

-- a difference grows with its first part and falls with its second
pub sub-mono : {x x' y y' : Fraction} → x ≤ᶠ x' → y' ≤ᶠ y → x -ᶠ y ≤ᶠ x' -ᶠ y'
unfolding ◌-ᶠ◌
sub-mono h k = +-mono h (neg-antitone k)

-- x ≤ 0 gives 0 ≤ −x
pub neg-NonNegative : {x : Fraction} → x ≤ᶠ whole 0 → NonNegative (negᶠ x)
unfolding negᶠ whole
neg-NonNegative h = record { nonneg = omega (arith, h.cross) }

-- equal parts have equal differences
pub sub-cong : {x x' y y' : Fraction} → x ≈ᶠ x' → y ≈ᶠ y' → x -ᶠ y ≈ᶠ x' -ᶠ y'
unfolding ◌-ᶠ◌
sub-cong h k = +-cong h (neg-cong k)

-- x − y + y = x
pub sub-add : (x y : Fraction) → x -ᶠ y +ᶠ y ≈ᶠ x
unfolding ◌-ᶠ◌ ◌+ᶠ◌ negᶠ
sub-add x y = omega arith

-- x + y − y = x
pub add-sub : (x y : Fraction) → x +ᶠ y -ᶠ y ≈ᶠ x
unfolding ◌-ᶠ◌ ◌+ᶠ◌ negᶠ
add-sub x y = omega arith

-- x − x = 0
pub sub_self : (x : Fraction) → x -ᶠ x ≈ᶠ whole 0
unfolding ◌-ᶠ◌ ◌+ᶠ◌ negᶠ whole
sub_self x = omega arith

-- y ≤ x gives 0 ≤ x − y
pub sub-NonNegative : {x y : Fraction} → y ≤ᶠ x → NonNegative (x -ᶠ y)
unfolding ◌-ᶠ◌ ◌+ᶠ◌ negᶠ
sub-NonNegative h = omega arith

-- x ≤ y + z is x − y ≤ z
pub ≤-sub : {x : Fraction} (y z : Fraction) → x ≤ᶠ y +ᶠ z → x -ᶠ y ≤ᶠ z
≤-sub {x} y z h =
    ≤_trans (sub-mono (≤_trans h (≈→≤ (+_comm y z))) (≤-refl y)) (≈→≤ (add-sub z y))

-- x − y ≤ z is x ≤ y + z
pub sub-≤ : (x y : Fraction) {z : Fraction} → x -ᶠ y ≤ᶠ z → x ≤ᶠ y +ᶠ z
sub-≤ x y {z} h =
    ≤-by (≈-sym (sub-add x y)) (+_comm y z) (+-mono h (≤-refl y))

-- x + y ≤ z gives x ≤ z − y
pub ≤-minus : (x y : Fraction) {z : Fraction} → x +ᶠ y ≤ᶠ z → x ≤ᶠ z -ᶠ y
≤-minus x y h = ≤_trans (≈→≥ (add-sub x y)) (sub-mono h (≤-refl y))

-- x + y ≤ x + z gives y ≤ z
+-cancel : (x y z : Fraction) → x +ᶠ y ≤ᶠ x +ᶠ z → y ≤ᶠ z
+-cancel x y z h =
    ≤_trans (≤-minus y x (≤-by (+_comm y x) (≈-refl _) h)) (≤-sub x z (≤-refl (x +ᶠ z)))

-- y + (x − y) = x
pub regain : (x y : Fraction) → y +ᶠ (x -ᶠ y) ≈ᶠ x
regain x y = ≈-trans (+_comm y (x -ᶠ y)) (sub-add x y)

-- The product.

-- (b − a)·(d − c) ≥ 0, with every term on the side where it is added
cross-mul : {a b c d : ℕ} → a ≤ b → c ≤ d → a * d + b * c ≤ a * c + b * d
cross-mul {a} {b} {c} {d} h k =
    let (u, e) = le_dest h in
    let (v, f) = le_dest k in
    rw (← e, ← f) (omega arith)

-- x·y = y·x
pub *-comm : (x y : Fraction) → x *ᶠ y ≈ᶠ y *ᶠ x
unfolding ◌*ᶠ◌
*-comm x y = record { cross = simp ring }

-- (x·y)·z = x·(y·z)
pub *-assoc : (x y z : Fraction) → x *ᶠ y *ᶠ z ≈ᶠ x *ᶠ (y *ᶠ z)
unfolding ◌*ᶠ◌
*-assoc x y z = record { cross = simp ring }

-- x·(y + z) = x·y + x·z
pub *-distrib : (x y z : Fraction) → x *ᶠ (y +ᶠ z) ≈ᶠ x *ᶠ y +ᶠ x *ᶠ z
unfolding ◌*ᶠ◌ ◌+ᶠ◌
*-distrib x y z = record { cross = simp ring }

-- x·1 = x
pub *-one : (x : Fraction) → x *ᶠ whole 1 ≈ᶠ x
unfolding ◌*ᶠ◌ whole
*-one x = omega arith

-- x·0 = 0
pub *-zero : (x : Fraction) → x *ᶠ whole 0 ≈ᶠ whole 0
unfolding ◌*ᶠ◌ whole
*-zero x = omega arith

-- a product by a y of 0 or more grows with its first factor
pub *-mono-left : {x x' y : Fraction} → NonNegative y → x ≤ᶠ x' → x *ᶠ y ≤ᶠ x' *ᶠ y
unfolding ◌*ᶠ◌
*-mono-left {x} {x'} {y} n h = record {
  cross = via (mul-le-mul_right y.den (cross-mul n.nonneg h.cross)) (simp ring) (simp ring);
}

-- and by an x of 0 or more with its second
pub *-mono-right : {x y y' : Fraction} → NonNegative x → y ≤ᶠ y' → x *ᶠ y ≤ᶠ x *ᶠ y'
*-mono-right {x} {y} {y'} n h = ≤-by (*-comm x y) (*-comm x y') (*-mono-left n h)

-- x ≤ x' and y ≤ y' give x·y ≤ x'·y', for 0 ≤ x' and 0 ≤ y
pub *-mono : {x x' y y' : Fraction} → NonNegative x' → NonNegative y → x ≤ᶠ x' → y ≤ᶠ y' → x *ᶠ y ≤ᶠ x' *ᶠ y'
*-mono m n h k = ≤_trans (*-mono-left n h) (*-mono-right m k)

-- equal first factors have equal products
*-cong-left : {x x' : Fraction} (y : Fraction) → x ≈ᶠ x' → x *ᶠ y ≈ᶠ x' *ᶠ y
unfolding ◌*ᶠ◌
*-cong-left {x} {x'} y h = record {
  cross =
      omega (arith, ap (λ (t : ℕ). t * (y.den * y.up)) h.cross, ap (λ (t : ℕ). t * (y.den * y.down)) h.cross);
}

-- equal factors have equal products
pub *-cong : {x x' y y' : Fraction} → x ≈ᶠ x' → y ≈ᶠ y' → x *ᶠ y ≈ᶠ x' *ᶠ y'
*-cong {x} {x'} {y} {y'} h k =
    ≈-trans (*-cong-left y h) (≈-by (*-comm x' y) (*-comm x' y') (*-cong-left x' k))

-- x·y·z = x·z·y
pub *-swap : (x y z : Fraction) → x *ᶠ y *ᶠ z ≈ᶠ x *ᶠ z *ᶠ y
*-swap x y z = ≈-by (*-assoc x y z) (*-assoc x z y) (*-cong (≈-refl x) (*-comm y z))

-- (x + y)·z = x·z + y·z
pub +-times : (x y z : Fraction) → (x +ᶠ y) *ᶠ z ≈ᶠ x *ᶠ z +ᶠ y *ᶠ z
+-times x y z =
    ≈-by (*-comm (x +ᶠ y) z) (+-cong (*-comm x z) (*-comm y z)) (*-distrib z x y)

-- 0 ≤ x, y gives 0 ≤ x·y
pub *-NonNegative : {x y : Fraction} → NonNegative x → NonNegative y → NonNegative (x *ᶠ y)
unfolding ◌*ᶠ◌
*-NonNegative h k = record { nonneg = omega (arith, cross-mul h.nonneg k.nonneg) }

-- The power.

-- a power of a value of 0 or more is 0 or more
pub ^-NonNegative : {x : Fraction} (i : ℕ) → NonNegative x → NonNegative (x ^ᶠ i)
unfolding ◌^ᶠ◌
^-NonNegative zero h = whole-NonNegative 1
^-NonNegative (suc i) h = *-NonNegative (^-NonNegative i h) h

-- equal values have equal powers
pub ^-cong : {x y : Fraction} (i : ℕ) → x ≈ᶠ y → x ^ᶠ i ≈ᶠ y ^ᶠ i
unfolding ◌^ᶠ◌
^-cong zero h = ≈-refl (whole 1)
^-cong (suc i) h = *-cong (^-cong i h) h

-- Division by a count, and a count of times.

-- max is idle from 1 upward
pub idle : {k : ℕ} → 0 < k → max 1 k ≡ k
idle h = omega arith

-- x/k grows with x
pub over-mono : {x y : Fraction} (k : ℕ) → x ≤ᶠ y → x over k ≤ᶠ y over k
unfolding ◌over◌
over-mono k h = record { cross = omega (arith, mul-le-mul_right (max 1 k) h.cross) }

-- equal values have equal parts
pub over-cong : {x y : Fraction} (k : ℕ) → x ≈ᶠ y → x over k ≈ᶠ y over k
unfolding ◌over◌
over-cong k h = record { cross = omega (arith, ap (λ (t : ℕ). t * max 1 k) h.cross) }

-- 0 ≤ x gives 0 ≤ x/k
pub over-NonNegative : {x : Fraction} (k : ℕ) → NonNegative x → NonNegative (x over k)
unfolding ◌over◌
over-NonNegative k h = omega arith

-- k times x is the product with the whole number k
pub times-is : (k : ℕ) (x : Fraction) → k times x ≈ᶠ whole k *ᶠ x
unfolding ◌times◌ ◌*ᶠ◌ whole
times-is zero x = omega arith
times-is (suc k) x = omega arith

-- k·x grows with x
pub times-mono : {x y : Fraction} (k : ℕ) → x ≤ᶠ y → k times x ≤ᶠ k times y
times-mono {x} {y} k h = ≤-by (times-is k x) (times-is k y) (*-mono-right (whole-NonNegative k) h)

-- equal values have equal multiples
pub times-cong : {x y : Fraction} (k : ℕ) → x ≈ᶠ y → k times x ≈ᶠ k times y
times-cong {x} {y} k h = ≈-by (times-is k x) (times-is k y) (*-cong (≈-refl _) h)

-- The inverse.

-- 0 < x ≤ y gives 1/y ≤ 1/x
inverse-antitone : {x y : Fraction} → Positive x → x ≤ᶠ y → inverse y ≤ᶠ inverse x
unfolding inverse
inverse-antitone {x} {y} p h =
    let q : Positive y = positive-up h p in
    let u : 0 < x.up - x.down = omega arith in
    let v : 0 < y.up - y.down = omega arith in
    record { cross = rw (idle u, idle v) (simp mul-sub (omega (arith, h.cross))) }

-- equal positive values have equal inverses
pub inverse-cong : {x y : Fraction} → Positive x → x ≈ᶠ y → inverse x ≈ᶠ inverse y
inverse-cong p h = ≤-antisym (inverse-antitone (positive-cong h p) (≈→≥ h)) (inverse-antitone p (≈→≤ h))

-- 0 < 1/x
pub inverse-positive : (x : Fraction) → Positive (inverse x)
unfolding inverse
inverse-positive x = omega arith

-- x·(1/x) = 1
inverse-mul : (x : Fraction) → Positive x → x *ᶠ inverse x ≈ᶠ whole 1
unfolding inverse ◌*ᶠ◌ whole
inverse-mul x p =
    let u : 0 < x.up - x.down = omega arith in
    record { cross = rw (idle u) (simp mul-sub (omega (arith, mul-le-mul_left x.den (le_of_lt p.gt)))) }

-- x·z ≤ y·z gives x ≤ y, for 0 < z
pub *-cancel : {x y z : Fraction} → Positive z → x *ᶠ z ≤ᶠ y *ᶠ z → x ≤ᶠ y
*-cancel {x} {y} {z} p h =
    ≤-by (≈-sym (undo x)) (≈-sym (undo y)) (*-mono-left (positive→NonNegative (inverse-positive z)) h)
  where
    undo : (x : Fraction) → x *ᶠ z *ᶠ inverse z ≈ᶠ x
    undo x = ≈-by (*-assoc x z (inverse z)) (≈-sym (*-one x)) (*-cong (≈-refl x) (inverse-mul z p))

-- A value y that is known by a part of itself, c·y; with c + d = 1, d·y is what remains.
module _ (c y : Fraction) {d : Fraction} (p : Positive d) (e : c +ᶠ d ≈ᶠ whole 1) where
  -- the two parts
  in_parts : y ≈ᶠ c *ᶠ y +ᶠ y *ᶠ d
  in_parts =
      ≈-by (≈-sym (*-one y)) (+-cong (*-comm c y) (≈-refl (y *ᶠ d))) (≈-trans (*-cong (≈-refl y) (≈-sym e)) (*-distrib y c d))

  -- c·y + x ≤ y gives z ≤ y, for z·d ≤ x
  pub solve-least : {x z : Fraction} → z *ᶠ d ≤ᶠ x → c *ᶠ y +ᶠ x ≤ᶠ y → z ≤ᶠ y
  solve-least {x} h k = *-cancel p (≤_trans h (+-cancel (c *ᶠ y) x (y *ᶠ d) (≤_trans k (≈→≤ in_parts))))

  -- y ≤ c·y + x gives y ≤ z, for x ≤ z·d
  pub solve-most : {x z : Fraction} → x ≤ᶠ z *ᶠ d → y ≤ᶠ c *ᶠ y +ᶠ x → y ≤ᶠ z
  solve-most {x} h k = *-cancel p (≤_trans (+-cancel (c *ᶠ y) (y *ᶠ d) x (≤_trans (≈→≥ in_parts) k)) h)

-- Fractions given by two natural numbers.

-- a·d ≤ c·b gives a/b ≤ c/d
pub ratio-≤ : (a c : ℕ) {b d : ℕ} (p : 0 < b) (r : 0 < d) → a * d ≤ c * b → ratio a b p ≤ᶠ ratio c d r
unfolding ratio
ratio-≤ a c p r h = omega arith

-- a ≤ c gives a/b ≤ c/b
pub ratio-mono : {a c b : ℕ} (p : 0 < b) → a ≤ c → ratio a b p ≤ᶠ ratio c b p
ratio-mono {b = b} p h = ratio-≤ _ _ p p (mul-le-mul_right b h)

-- a·d = c·b gives a/b = c/d
pub ratio-≈ : (a c : ℕ) {b d : ℕ} (p : 0 < b) (r : 0 < d) → a * d ≡ c * b → ratio a b p ≈ᶠ ratio c d r
unfolding ratio
ratio-≈ a c p r h = omega arith

-- 0 ≤ a/b
pub ratio-NonNegative : (a : ℕ) {b : ℕ} (p : 0 < b) → NonNegative (ratio a b p)
unfolding ratio
ratio-NonNegative a p = omega arith

-- 0 < a gives 0 < a/b
pub ratio-positive : {a b : ℕ} (p : 0 < b) → 0 < a → Positive (ratio a b p)
unfolding ratio
ratio-positive p h = omega arith

-- p/q + r/q = (p + r)/q
pub ratio-sum : (p r q : ℕ) (h : 0 < q) → ratio p q h +ᶠ ratio r q h ≈ᶠ ratio (p + r) q h
unfolding ratio ◌+ᶠ◌
ratio-sum p r q h = omega arith

-- (a/b)·(c/d) = (a·c)/(b·d)
pub ratio-product : (a c : ℕ) {b d : ℕ} (p : 0 < b) (r : 0 < d) → ratio a b p *ᶠ ratio c d r ≈ᶠ ratio (a * c) (b * d) (mul-pos p r)
unfolding ratio ◌*ᶠ◌
ratio-product a c p r = omega arith

-- a/a = 1
pub ratio-one : (a : ℕ) (h : 0 < a) → ratio a a h ≈ᶠ whole 1
unfolding ratio whole
ratio-one a h = omega arith

-- k = k/1
pub whole_is : (k : ℕ) (p : 0 < 1) → whole k ≈ᶠ ratio k 1 p
unfolding whole ratio
whole_is k p = omega arith

-- k·10⁻ᵖˡᵃᶜᵉˢ
pub decimal-is : (k places : ℕ) → k /10^ places ≈ᶠ ratio k (10 ^ places) (ten-pos places)
unfolding ◌/10^◌ ratio
decimal-is k places = omega arith

-- a value is (i − j)/q for all i, j, q with x.up·q + j·x.den = i·x.den + x.down·q; with j ≤ i it is a ratio
as-ratio : (q i j : ℕ) (h : 0 < q) (x : Fraction) → j ≤ i → x.up * q + j * x.den ≡ i * x.den + x.down * q → x ≈ᶠ ratio (i - j) q h
unfolding ratio
as-ratio q i j h x le e = record { cross = simp sub-mul (omega (arith, e, mul-le-mul_right x.den le)) }

-- a value of 0 or more is a ratio
pub NonNegative-is : (x : Fraction) → NonNegative x → x ≈ᶠ ratio (x.up - x.down) x.den x.pos
NonNegative-is x h = as-ratio x.den x.up x.down x.pos x h.nonneg (omega arith)

-- j ≤ k as fractions
pub whole-mono : {j k : ℕ} → j ≤ k → whole j ≤ᶠ whole k
unfolding whole
whole-mono h = omega arith

-- j ≤ k gives j·10⁻ᵖˡᵃᶜᵉˢ ≤ k·10⁻ᵖˡᵃᶜᵉˢ
pub decimal-mono : {j k : ℕ} (places : ℕ) → j ≤ k → j /10^ places ≤ᶠ k /10^ places
unfolding ◌/10^◌
decimal-mono places h = record { cross = omega (arith, mul-le-mul_right (10 ^ places) h) }
