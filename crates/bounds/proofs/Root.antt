-- The root by binary digits is the largest whole number whose square is at most x, and the cut root is document 01's "largest
-- multiple of 2⁻ⁿ whose square is at most" x.
use mathlib.Core.Path.{◌≡◌, refl, ap, ◌∙◌}
use mathlib.Core.Bool.{Bool, true, false}
use Prim.Native.Nat.{ℕ, suc, zero, ◌+◌, ◌*◌, ◌-◌, ◌^◌, ◌/◌, ◌≤◌, ◌<◌}
use native.Mathlib.Omega.{arith}
use native.Mathlib.Numerals.{unary_clauses}
use native.Mathlib.Decide.{dec_le}
use native.Mathlib.Nat.{mul-le-mul, mul-le-mul_right, div-mul-le_self, lt-div-mul-add, le_dest, le_of_lt, lt_of_not-le}
use native.Mathlib.Nat.{add-sub_cancel_left, le_refl, le_antisymm}
use lib.Dec.{leb}
use borrow.Author.Tests.{leb-true, leb-false, le-leb, lt-leb}
use Rattle.numbers.specs.Fraction.{Fraction, ◌≤ᶠ◌, ◌<ᶠ◌, ◌*ᶠ◌, ◌^ᶠ◌, whole, ◌≤?◌, ratio}
use Rattle.numbers.proofs.Order.{NonNegative, test-cases}
use Rattle.bounds.specs.Series.{root_from, root, cut_root, power2_5, multiple, CutRootTheorem}

-- the larger square has the larger root
pub root-less : {a b : ℕ} → a * a < b * b → a < b
root-less {a} {b} h = elim (dec_le b a) [ yes l ↦ absurd (omega (arith, h, mul-le-mul l l)) | no l ↦ omega arith ]

-- r² ≤ x < (r + 1)²
pub record IsRoot (x r : ℕ) : Type 0 where
  pub low : r * r ≤ x
  pub high : x < (r + 1) * (r + 1)

-- a number whose square is at most x is at most the root
root-largest : {x r k : ℕ} → IsRoot x r → k * k ≤ x → k ≤ r
root-largest {x} {r} {k} h l = let g : k < r + 1 = root-less (omega (arith, h.high)) in omega arith

-- one more binary digit
digit :
    (r x : ℕ) (c : Bool)
    → leb ((2 * r + 1) * (2 * r + 1)) x ≡ c
    → IsRoot (x / 4) r
    → IsRoot x (elim c [ true ↦ 2 * r + 1 | false ↦ 2 * r ])
digit r x true e h = record {
  low = leb-true _ _ e;
  high = omega (arith, h.high);
}
digit r x false e h = record {
  low = omega (arith, h.low);
  high = omega (arith, leb-false ((2 * r + 1) * (2 * r + 1)) x e);
}

-- the digits end at the root where there are enough of them
from_is : (fuel x : ℕ) → x ≤ fuel → IsRoot x (root_from fuel x)
unfolding root_from
from_is zero x h = omega arith
from_is (suc fuel) x h = go (λ below. from_is fuel (x / 4) below) (leb x 0) refl
  where
    go :
        (x / 4 ≤ fuel → IsRoot (x / 4) (root_from fuel (x / 4)))
        → (c : Bool)
        → leb x 0 ≡ c
        → IsRoot x (elim c [
          | true ↦ 0
          | false ↦
              let r = 2 * root_from fuel (x / 4) in
              elim (leb ((r + 1) * (r + 1)) x) [ true ↦ r + 1 | false ↦ r ]
        ])
    go ih true e = omega (arith, leb-true x 0 e)
    go ih false e = digit (root_from fuel (x / 4)) x _ refl (ih (omega (arith, leb-false x 0 e)))

-- (root x)² ≤ x < (root x + 1)²
pub root_is : (x : ℕ) → IsRoot x (root x)
unfolding root
root_is x = from_is x x (le_refl x)

-- there is one root only
pub root-one : {x r k : ℕ} → IsRoot x r → IsRoot x k → r ≡ k
root-one h g = le_antisymm (root-largest g h.low) (root-largest h g.low)

-- the root of k² is k
pub root-square : (k : ℕ) → root (k * k) ≡ k
root-square k = root-one (root_is (k * k)) (omega arith)

-- 4ab ≤ (a + b)²
four_products : (a b : ℕ) → 4 * (a * b) ≤ (a + b) * (a + b)
four_products a b =
    elim (dec_le a b) [
      | yes l ↦ let (d, e) = le_dest l in rw (← e) (omega arith)
      | no l ↦ let (d, e) = le_dest (le_of_lt (lt_of_not-le l)) in rw (← e) (omega arith)
    ]

-- the half of r + x/r, cut, is no lower than the root, whatever r is
pub halved-above : (x r : ℕ) → 0 < r → x < ((r + x / r) / 2 + 1) * ((r + x / r) / 2 + 1)
halved-above x r h =
    let q : ℕ = x / r in
    let s : ℕ = (r + q) / 2 in
    let a : x < q * r + r = lt-div-mul-add {a = x} h in
    let b : r + (q + 1) ≤ 2 * (s + 1) = omega arith in
    omega (arith, a, four_products r (q + 1), mul-le-mul b b)

-- 4ⁿ is the square of 2ⁿ
four-power : (n : ℕ) → 4 ^ n ≡ 2 ^ n * 2 ^ n
four-power zero = refl
four-power (suc n) = simp unary_clauses (omega (arith, four-power n))

-- the root of m², cut after n places
pub root-square-cut : (n m : ℕ) → root (4 ^ n * (m * m)) ≡ m * 2 ^ n
root-square-cut n m = ap root (rw (four-power n) (omega arith)) ∙ root-square (m * 2 ^ n)

-- 4ⁿ·(u − d) without the cut difference, where d ≤ u
uncut : (two four u d : ℕ) → four ≡ two * two → d ≤ u → four * (u - d) + d * (two * two) ≡ u * (two * two)
uncut two four u d e h =
    let (a, f) = le_dest h in
    rw (e, ← f, add-sub_cancel_left) (omega arith)

-- with q = ⌊x / e⌋ for x = 4ⁿ·(u − d): r² ≤ q says crosswise that (r / 2ⁿ)² ≤ (u − d) / e
low-cross :
    (two x u d e r q : ℕ)
    → x + d * (two * two) ≡ u * (two * two)
    → r * r ≤ q
    → q * e ≤ x
    → (r * r + 0 * 0) * e + d * (two * two) ≤ u * (two * two) + (r * 0 + 0 * r) * e
low-cross two x u d e r q p h k = omega (arith, mul-le-mul_right e h, k, p)

-- and the other way
largest-cross :
    (two x u d e k q : ℕ)
    → x + d * (two * two) ≡ u * (two * two)
    → x < q * e + e
    → (k * k + 0 * 0) * e + d * (two * two) ≤ u * (two * two) + (k * 0 + 0 * k) * e
    → k * k ≤ q
largest-cross two x u d e k q p g h =
    elim (dec_le (k * k) q) [
      | yes l ↦ l
      | no l ↦
          let m : suc q ≤ k * k = omega arith in
          absurd (omega (arith, mul-le-mul_right e m, h, g, p))
    ]

-- the cut root of an x from 0 upward is the largest multiple of 2⁻ⁿ whose square is at most x
pub cut_root-is : CutRootTheorem
unfolding cut_root ratio ◌*ᶠ◌ whole
cut_root-is n x h =
    let two = 2 ^ n in
    let u = x.up in
    let d = x.down in
    let e = x.den in
    let y = 4 ^ n * (u - d) in
    let is = root_is (y / e) in
    let p : y + d * (two * two) ≡ u * (two * two) = uncut two (4 ^ n) u d (four-power n) (omega (arith, h.cross)) in
    record {
      low = record { cross = low-cross two y u d e (root (y / e)) (y / e) p is.low (div-mul-le_self y e) };
      largest = λ k l.
          root-largest is (largest-cross two y u d e k (y / e) p (lt-div-mul-add {a = y} x.pos) l.cross);
    }

-- the cut root is a multiple of 2⁻ⁿ
pub cut_root-multiple : (n : ℕ) (x : Fraction) → cut_root n x ≡ multiple n (cut_root n x).up
unfolding cut_root ratio
cut_root-multiple n x = refl

-- T^2.5 from 0 upward is the cut root of T⁵
pub power2_5-above : (n : ℕ) {t : Fraction} → whole 0 ≤ᶠ t → power2_5 n t ≡ cut_root n (t ^ᶠ 5)
unfolding power2_5 ◌≤?◌
power2_5-above n {t} h =
    ap (λ (c : Bool). elim c [ true ↦ cut_root n (t ^ᶠ 5) | false ↦ whole 0 ]) (le-leb _ _ h.cross)

-- T^2.5 below 0 is 0
pub power2_5-below : (n : ℕ) {t : Fraction} → t <ᶠ whole 0 → power2_5 n t ≡ whole 0
unfolding power2_5 ◌≤?◌
power2_5-below n {t} h =
    ap (λ (c : Bool). elim c [ true ↦ cut_root n (t ^ᶠ 5) | false ↦ whole 0 ]) (lt-leb _ _ h.cross)

-- 0 ≤ T^2.5
pub power2_5-NonNegative : (n : ℕ) (t : Fraction) → NonNegative (power2_5 n t)
unfolding power2_5 cut_root whole
power2_5-NonNegative n t =
    test-cases (λ (c : Bool). NonNegative (elim c [ true ↦ cut_root n (t ^ᶠ 5) | false ↦ whole 0 ])) (whole 0) t
    (λ h. record { nonneg = omega arith }) (λ h. record { nonneg = omega arith })
