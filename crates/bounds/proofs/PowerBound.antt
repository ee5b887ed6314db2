-- The computed T^2.5 encloses document 01's, for every n of 40 or more.
-- With N = T·10¹⁰, p = ⌊N²/2⁴⁰⌋ and q = ⌊√(N·2²⁴)⌋: (p·q·2²⁸)² ≤ N⁵ < ((p + 1)·(q + 1)·2²⁸)², so that no power above the square is
-- formed, and squares are compared where document 01 has a root.
use mathlib.Core.Path.{◌≡◌, refl, ap, sym, ◌∙◌}
use Prim.Native.Nat.{ℕ, suc, zero, ◌+◌, ◌*◌, ◌-◌, ◌^◌, ◌/◌, ◌≤◌, ◌<◌}
use native.Mathlib.Omega.{arith}
use native.Mathlib.Decide.{dec_le}
use native.Mathlib.Numerals.{unary_clauses}
use native.Mathlib.Nat.{sub-add_cancel, sub-eq-zero_of_le, mul-pos, mul-le-mul_right, mul-le-mul_left, mul-le-mul}
use native.Mathlib.Nat.{le_of_mul-le-mul_right, lt_of_mul-lt-mul_right, le_trans, pow-zero, pow-suc, div-mul-le_self}
use lib.Pow.{pow-add}
use lib.Dec.{lit<}
use Rattle.numbers.specs.Fraction.{Fraction, ◌≤ᶠ◌, ◌*ᶠ◌, ◌^ᶠ◌, whole, ratio}
use Rattle.bounds.specs.Series.{root_from, root, cut_root, power2_5, two_pos, multiple, LargestMultiple}
use Rattle.bounds.specs.Enclosure.{Within, WithinAll}
use Rattle.bounds.specs.Power.{degrees, half_power, power_from, power, degrees_limit, power_error}
use Rattle.bounds.proofs.Root.{root_is, root-less, cut_root-is, power2_5-above, power2_5-below}

-- N at the highest temperature that is served, 65 °C
abbrev warmest : ℕ
warmest = 65 * 10 ^ 10

-- there p is this,
abbrev square_most : ℕ
square_most = 384261511499

-- q this,
abbrev root_most : ℕ
root_most = 3302300773

-- and ⌊p·q/2⁴⁰⌋ this
abbrev half_most : ℕ
half_most = 1154100651

-- p is at most what it is at the warmest
square-most : (N : ℕ) → N ≤ warmest → N * N / 2 ^ 40 ≤ square_most
square-most N h = cut (N * N) (mul-le-mul h h)
  where
    cut : (x : ℕ) → x ≤ warmest * warmest → x / 2 ^ 40 ≤ square_most
    cut x h = omega arith

-- and so is q
root-most : (N : ℕ) → N ≤ warmest → root (N * 2 ^ 24) ≤ root_most
root-most N h =
    let l : root (N * 2 ^ 24) < root_most + 1 = root-less (omega (arith, (root_is (N * 2 ^ 24)).low)) in
    omega arith

-- and ⌊p·q/2⁴⁰⌋
half_power-most : (N : ℕ) → N ≤ warmest → half_power N ≤ half_most
unfolding half_power
half_power-most N h = cut (N * N / 2 ^ 40 * root (N * 2 ^ 24)) (mul-le-mul (square-most N h) (root-most N h))
  where
    cut : (x : ℕ) → x ≤ square_most * root_most → x / 2 ^ 40 ≤ half_most
    cut x h = omega arith

-- the computed number is below 2⁴⁰
pub power_size : (θ : ℕ) → θ ≤ degrees_limit → power θ < 2 ^ 40
unfolding power power_from
power_size θ h = omega (arith, half_power-most (θ - 30 * 10 ^ 10) (omega arith))

-- (p·q·H)² ≤ N⁵ for p ≤ N²/W and q² ≤ N·B, where W² = B·H²
fifth-above :
    (N p q W B H : ℕ)
    → 0 < B
    → W * W ≡ B * (H * H)
    → p * W ≤ N * N
    → q * q ≤ N * B
    → p * q * H * (p * q * H) ≤ N * N * (N * N) * N
fifth-above N p q W B H b e h k =
    le_of_mul-le-mul_right {k = B} (omega (arith, mul-le-mul (mul-le-mul h h) k, ap (λ t. t * (p * q * (p * q))) e)) b

-- N⁵ < (P·Q·H)² for N² < P·W and N·B < Q²
fifth-below :
    (N P Q W B H : ℕ)
    → W * W ≡ B * (H * H)
    → N * N < P * W
    → N * B < Q * Q
    → N * N * (N * N) * N < P * Q * H * (P * Q * H)
fifth-below N P Q W B H e h k =
    lt_of_mul-lt-mul_right B (omega (arith, less (N * N) (P * W) (N * B) (Q * Q) h k, ap (λ t. t * (P * Q * (P * Q))) e))
  where
    less : (n P m Q : ℕ) → n < P → m < Q → n * n * m < P * P * Q
    less n P m Q h k =
        let l : n ≤ P = omega arith in
        let p : 0 < P = omega arith in
        omega (arith, mul-le-mul_left (P * P) k, mul-le-mul_right m (mul-le-mul l l), mul-pos p p)

-- the power of a fraction whose numerator is N has the numerator Nⁱ
numerator-power : (x : Fraction) (N i : ℕ) → x.up ≡ x.down + N → (x ^ᶠ i).up ≡ (x ^ᶠ i).down + N ^ i
unfolding ◌^ᶠ◌ ◌*ᶠ◌ whole
numerator-power x N zero e = simp unary_clauses
numerator-power x N (suc i) e =
    rw pow-suc
    (step (x ^ᶠ i).up (x ^ᶠ i).down x.up x.down N (N ^ i) (numerator-power x N i e) e)
  where
    step : (u d v c N P : ℕ) → u ≡ d + P → v ≡ c + N → u * v + d * c ≡ u * c + d * v + P * N
    step u d v c N P e f = rw (e, f) (omega arith)

-- and the denominator's power under it
denominator-power : (x : Fraction) (i : ℕ) → (x ^ᶠ i).den ≡ x.den ^ i
unfolding ◌^ᶠ◌ ◌*ᶠ◌ whole
denominator-power x zero = simp unary_clauses
denominator-power x (suc i) = rw pow-suc (ap (λ (t : ℕ). t * x.den) (denominator-power x i))

-- x = F/e²
record OverSquare (F e : ℕ) (x : Fraction) : Type 0 where
  numerator : x.up ≡ x.down + F
  denominator : x.den ≡ e * e

-- The largest multiple of 2⁻ⁿ whose square is at most F/e² is at least R/S, where R/S ≤ X/e for an X whose square is at most F. No
-- unit of 2⁻ⁿ is lost, since R/S is itself a multiple of 2⁻ⁿ.
multiple-above :
    {n : ℕ} (X R G S : ℕ) {F e r : ℕ} {x : Fraction}
    → OverSquare F e x
    → LargestMultiple n x r
    → 2 ^ n ≡ G * S
    → X * X ≤ F
    → R * e ≤ X * S
    → R * 2 ^ n ≤ r * S
unfolding ratio ◌*ᶠ◌
multiple-above {n} X R G S {x = x} v is g h k =
    let fits : multiple n (R * G) *ᶠ multiple n (R * G) ≤ᶠ x = record {
      cross =
          rw (v.numerator, v.denominator, g)
          (omega (arith, mul-le-mul_right (G * G) (mul-le-mul k k), mul-le-mul_right (S * S * (G * G)) h));
    } in
    rw g (omega (arith, mul-le-mul_right S (is.largest (R * G) fits)))

-- And at most Q/S, where Y/e ≤ Q/S for a Y whose square is above F.
multiple-below :
    {n : ℕ} (Y Q S : ℕ) {F e r : ℕ} {x : Fraction}
    → OverSquare F e x
    → LargestMultiple n x r
    → 0 < e
    → F < Y * Y
    → Y * S ≤ Q * e
    → r * S ≤ Q * 2 ^ n
unfolding ratio ◌*ᶠ◌
multiple-below {n} Y Q S {e = e} {r = r} v is pos h k =
    let low = rw (v.numerator, v.denominator) at is.low.cross in
    let less : r * e < Y * 2 ^ n =
    root-less (omega (arith, low, mul-le-mul_right (2 ^ n * 2 ^ n) h, mul-pos (two_pos n) (two_pos n))) in
    let least : r * e ≤ Y * 2 ^ n = omega arith in
    le_of_mul-le-mul_right {k = e} (omega (arith, mul-le-mul_right S least, mul-le-mul_right (2 ^ n) k)) pos

-- T⁵ is N⁵/10⁵⁰ for T = N/10¹⁰
fifth-is :
    (N : ℕ) (t : Fraction)
    → t.up ≡ t.down + N
    → t.den ≡ 10 ^ 10
    → OverSquare (N * N * (N * N) * N) (10 ^ 25) (t ^ᶠ 5)
fifth-is N t e f = record {
  numerator = numerator-power t N 5 e ∙ ap (λ (k : ℕ). (t ^ᶠ 5).down + k) five;
  denominator = denominator-power t 5 ∙ ap (λ (k : ℕ). k ^ 5) f;
}
  where
    five : N ^ 5 ≡ N * N * (N * N) * N
    five = rw (pow-suc, pow-suc, pow-suc, pow-suc, pow-suc, pow-zero) (omega arith)

-- The computed number is at most p·q·2⁵²/10²⁵, written as p·q·2²⁷/5²⁵,
product-above : (x : ℕ) → x / 2 ^ 40 * 8307674973 / 2 ^ 24 * 5 ^ 25 ≤ x * 2 ^ 27
product-above x = le_trans (cut (x / 2 ^ 40)) (omega (arith, div-mul-le_self x (2 ^ 40)))
  where
    cut : (c : ℕ) → c * 8307674973 / 2 ^ 24 * 5 ^ 25 ≤ c * 2 ^ 67
    cut c = omega arith

-- and with its error at least (p + 1)·(q + 1)·2²⁷/5²⁵.
product-below :
    (p q : ℕ)
    → p ≤ square_most
    → q ≤ root_most
    → p * q / 2 ^ 40 ≤ half_most
    → (p + 1) * (q + 1) * 2 ^ 27 ≤ (p * q / 2 ^ 40 * 8307674973 / 2 ^ 24 + power_error) * 5 ^ 25
product-below p q h k l = omega arith

-- 2ⁿ is a multiple of 2ˢ for s ≤ n
power-multiple : (s n : ℕ) → s ≤ n → 2 ^ n ≡ 2 ^ (n - s) * 2 ^ s
power-multiple s n h = ap (λ (k : ℕ). 2 ^ k) (sym (sub-add_cancel h)) ∙ pow-add 2 (n - s) s

-- the bounds from 0 °C upward, T = N/10¹⁰
cut_root-within :
    (n N : ℕ) (t : Fraction)
    → 24 ≤ n
    → N ≤ warmest
    → t.up ≡ t.down + N
    → t.den ≡ 10 ^ 10
    → Within (2 ^ 24) (power_from N) power_error (cut_root n (t ^ᶠ 5))
unfolding power_from half_power cut_root whole
cut_root-within n N t m small e f =
    let p = N * N / 2 ^ 40 in
    let q = root (N * 2 ^ 24) in
    let root-q = root_is (N * 2 ^ 24) in
    let v = fifth-is N t e f in
    let is = cut_root-is n (t ^ᶠ 5) (record { cross = omega (arith, v.numerator) }) in
    record {
      above =
          simp unary_clauses
          (multiple-above (p * q * 2 ^ 28) (power_from N) (2 ^ (n - 24)) (2 ^ 24) v is (power-multiple 24 n m)
          (fifth-above N p q (2 ^ 40) (2 ^ 24) (2 ^ 28) (lit< tt) refl (div-mul-le_self (N * N) (2 ^ 40)) root-q.low)
          (omega (arith, product-above (p * q))));
      below =
          simp unary_clauses
          (multiple-below ((p + 1) * (q + 1) * 2 ^ 28) (power_from N + power_error) (2 ^ 24) v is (lit< tt)
          (fifth-below N (p + 1) (q + 1) (2 ^ 40) (2 ^ 24) (2 ^ 28) refl (over (N * N)) root-q.high)
          (omega (arith, product-below p q (square-most N small) (root-most N small) (half_power-most N small))));
    }
  where
    over : (x : ℕ) → x < (x / 2 ^ 40 + 1) * 2 ^ 40
    over x = omega arith

-- up to 0 °C the computed number is 0
power-cold : (θ : ℕ) → θ ≤ 30 * 10 ^ 10 → power θ ≡ 0
unfolding power power_from half_power root root_from
power-cold θ h = ap power_from (sub-eq-zero_of_le h)

-- power θ ≤ 2²⁴·T^2.5 ≤ power θ + power_error, for every n
pub power-within :
    (θ : ℕ) → θ ≤ degrees_limit → WithinAll (2 ^ 24) (power θ) power_error (λ n. power2_5 n (degrees θ))
unfolding power whole
power-within θ h = record {
  at = λ n m.
      elim (dec_le (30 * 10 ^ 10) θ) [
        | yes l ↦
            rw (power2_5-above n {t = degrees θ} (record { cross = omega arith }))
            (cut_root-within n (θ - 30 * 10 ^ 10) (degrees θ) (omega arith) (omega arith) (omega arith) refl)
        | no l ↦
            rw (power2_5-below n {t = degrees θ} (record { cross = omega arith }), power-cold θ (omega arith)) (omega arith)
      ];
}
