-- Doubles that are whole numbers: their sum, their comparison, and how a double handed in is recognised as one.
use Rattle.std.proofs.Common.{Some, None}
use Rattle.std.proofs.Common.{◌≡◌, ℕ, zero, suc, ◌+◌, ◌-◌, ◌*◌, ◌/◌, ◌%◌, ◌^◌, ◌<◌, ◌≤◌, Bool, true, false, cond, not, ◌&&◌, ◌||◌, T, eqb, leb, ℤ}
use Rattle.std.proofs.Common.{pos, sym, refl, ap, ◌∙◌, subst, true≢false, mul-le-mul_right, zero-lt-suc, mul-pos, mul-div_cancel, arith, le→leb}
use Rattle.std.proofs.Common.{eqb→eq, leb→le, lt-ltb, eq-eqb, ne_eqb, eqb-true}
use mathlib.Core.Bool.{beq, false≢true}
use native.Mathlib.Nat.{eq_of_mul-eq-mul_right, zero-div}
use borrow.Author.Tests.{eqb-false}
use lib.Dec.{eqb_refl}
use lib.Ieee.{Float, nan, inf, fin, binary64, prec, low, hid, top, up, down, size, round, sum, add, of_int, to_unsigned, to_bits, in_float, is_nan}
use lib.Ieee.{lt, eq}
use lib.Ieee.Fits.{down_pos, and_l, and_r}
use lib.Ieee.Exact.{HasValue}
use lib.Ieee.Back.{round_whole}
use lib.Ieee.Scale.{round_same}
use Rattle.map_cells.specs.Doubles.{mass_limit, double, whole_of, zero_bits}

-- a whole number up to 2⁵³ is a double
pub in-float : (n : ℕ) → n ≤ mass_limit → T (in_float binary64 (pos n))
unfolding in_float
in-float n h = le→leb n (2 ^ 53) h

-- and that double has its value
pub double-value : (n : ℕ) → n ≤ mass_limit → HasValue (double n) false n 1
unfolding of_int
double-value n h = round_whole binary64 false n h

-- the sum of two doubles with whole values, as a fraction
sum-of-values : (x y : Float) (m n : ℕ) → HasValue x false m 1 → HasValue y false n 1 → add binary64 x y ≡ round binary64 false (m + n) 1
unfolding add sum
sum-of-values nan y m n h k = elim h [ ]
sum-of-values (inf _) y m n h k = elim h [ ]
sum-of-values (fin false a e) nan m n h k = elim k [ ]
sum-of-values (fin false a e) (inf _) m n h k = elim k [ ]
sum-of-values (fin true a e) y m n h k = absurd (true≢false h.0)
sum-of-values (fin false a e) (fin true b d) m n h k = absurd (true≢false k.0)
sum-of-values (fin false a e) (fin false b d) m n h k =
    round_same binary64 false (a * up e * down d + b * up d * down e) (down e * down d) (m + n) 1 (mul-pos (down_pos e) (down_pos d)) (zero-lt-suc 0)
    (cross (a * up e) (down e) (b * up d) (down d) m n h.1 k.1)
  where
    cross : (p q r s m n : ℕ) → p * 1 ≡ m * q → r * 1 ≡ n * s → (p * s + r * q) * 1 ≡ (m + n) * (q * s)
    cross p q r s m n h k =
        let h' : p ≡ m * q = omega arith in
        let k' : r ≡ n * s = omega arith in
        rw (h', k') (omega arith)

-- "added in f64 with proved exactness": the sum of the doubles of m and n is the double of m + n
pub add-exact : (m n : ℕ) → m ≤ mass_limit → n ≤ mass_limit → add binary64 (double m) (double n) ≡ double (m + n)
unfolding of_int
add-exact m n h k = sum-of-values (double m) (double n) m n (double-value m h) (double-value n k)

-- Comparison of a whole double with any double.

-- x is the whole number n, a minus zero too
abbrev pub IsWhole : Float → ℕ → Type 0
IsWhole nan n = ⊥
IsWhole (inf s) n = ⊥
IsWhole (fin s m e) n = (m * up e ≡ n * down e) × (n ≤ mass_limit) × T (not s || eqb n 0)

mass-of : (x : Float) (n : ℕ) → IsWhole x n → whole_of x ≡ Some n
unfolding whole_of
mass-of nan n h = elim h [ ]
mass-of (inf _) n h = elim h [ ]
mass-of (fin s m e) n h =
    let q : m * up e / down e ≡ n = ap (λ (x : ℕ). x / down e) h.0 ∙ mul-div_cancel n (down_pos e) in
    rw q (tests (eqb (m * up e) (n * down e)) (leb n mass_limit) (not s || eqb n 0)
    (subst (λ (y : ℕ). T (eqb (m * up e) y)) h.0 (eqb_refl (m * up e))) (le→leb n mass_limit h.1) h.2)
  where
    tests : (a b c : Bool) → T a → T b → T c → cond (a && b && c) (Some n) None ≡ Some n
    tests true true true x y z = refl
    tests true true false x y z = absurd z
    tests true false c x y z = absurd y
    tests false b c x y z = absurd x

none_of : (x : Float) → ((n : ℕ) → IsWhole x n → ⊥) → whole_of x ≡ None
unfolding whole_of
none_of nan h = refl
none_of (inf s) h = refl
none_of (fin s m e) h =
    let n : ℕ = m * up e / down e in
    tests n (eqb (m * up e) (n * down e)) (leb n mass_limit) (not s || eqb n 0) (eqb→eq (m * up e) (n * down e)) (leb→le n mass_limit) (h n)
  where
    tests : (n : ℕ) (a b c : Bool) → (T a → m * up e ≡ n * down e) → (T b → n ≤ mass_limit)
        → ((m * up e ≡ n * down e) × (n ≤ mass_limit) × T c → ⊥) → cond (a && b && c) (Some n) None ≡ None
    tests n true true true x y z = absurd (z (x tt, y tt, tt))
    tests n true true false x y z = refl
    tests n true false c x y z = refl
    tests n false b c x y z = refl

-- What the tests say of a double that is a whole number n.

either : (s : Bool) (n : ℕ) → T (not s || eqb n 0) → (s ≡ true → n ≡ 0)
either true n t e = eqb→eq n 0 t
either false n t e = absurd (false≢true e)

-- it is above −1
above_minus_one : (x : Float) (n : ℕ) → IsWhole x n → lt (fin true 1 (pos 0)) x ≡ true
unfolding lt
above_minus_one nan n h = elim h [ ]
above_minus_one (inf _) n h = elim h [ ]
above_minus_one (fin true m e) n h =
    let z : n ≡ 0 = either true n h.2 refl in
    let v : m * up e * 1 < 1 * 1 * down e = omega (arith, rw z at h.0, down_pos e) in
    lt-ltb (m * up e * 1) (1 * 1 * down e) v
above_minus_one (fin false m e) n h = lt-ltb 0 (1 * 1 * down e + m * up e * 1) (omega (arith, down_pos e))

-- and below 2⁶⁴
below_top : (x : Float) (n : ℕ) → IsWhole x n → lt x (fin false 1 (pos 64)) ≡ true
unfolding lt
below_top nan n h = elim h [ ]
below_top (inf _) n h = elim h [ ]
below_top (fin true m e) n h = lt-ltb 0 (m * up e * 1 + 1 * 2 ^ 64 * down e) (omega (arith, down_pos e))
below_top (fin false m e) n h =
    let d : ℕ = down e in
    let a : n * d ≤ mass_limit * d = mul-le-mul_right d h.1 in
    let v : m * up e * 1 < 1 * 2 ^ 64 * d = omega (arith, h.0, down_pos e) in
    lt-ltb (m * up e * 1) (1 * 2 ^ 64 * d) v

-- cut to a whole number, it is n
cut-is : (x : Float) (n : ℕ) → IsWhole x n → to_unsigned 64 x ≡ n
unfolding to_unsigned
cut-is nan n h = elim h [ ]
cut-is (inf _) n h = elim h [ ]
cut-is (fin true m e) n h = sym (either true n h.2 refl)
cut-is (fin false m e) n h =
    let q : m * up e / down e ≡ n = ap (λ (x : ℕ). x / down e) h.0 ∙ mul-div_cancel n (down_pos e) in
    rw q (omega (arith, h.1))

-- a double of value n, compared with any other finite double
pub same-value : (y : Float) (n : ℕ) (s : Bool) (m : ℕ) (e : ℤ) → HasValue y false n 1
    → eq y (fin s m e) ≡ (eqb (m * up e) (n * down e) && (not s || eqb n 0))
unfolding eq
same-value nan n s m e h = elim h [ ]
same-value (inf _) n s m e h = elim h [ ]
same-value (fin true a g) n s m e h = absurd (true≢false h.0)
same-value (fin false a g) n s m e h =
    let r : ℕ = a * up g in
    let q : r ≡ n * down g = omega (arith, h.1) in
    both s (eqb (r * down e) (m * up e * down g)) (eqb (m * up e) (n * down e)) (eqb (r * down e) 0) (eqb n 0)
    (tests (r * down e) (m * up e * down g) (m * up e) (n * down e)
    (λ k. cancel n (down g) (m * up e) (down e) r (down_pos g) q k) (λ k. rw (q, k) (omega arith)))
    (tests (r * down e) 0 n 0 (λ k. zero-first n (down g) (down e) r (down_pos g) (down_pos e) q k) (λ k. rw (q, k) (omega arith)))
  where
    no-product : (p : ℕ) → 0 < p → p ≡ 0 → ⊥
    no-product p h e = omega arith

    tests : (a b c d : ℕ) → (a ≡ b → c ≡ d) → (c ≡ d → a ≡ b) → eqb a b ≡ eqb c d
    tests a b c d f g = go (eqb c d) refl
      where
        go : (t : Bool) → eqb c d ≡ t → eqb a b ≡ eqb c d
        go true k = eq-eqb a b (g (eqb-true c d k)) ∙ sym k
        go false k = ne_eqb a b (λ j. eqb-false c d k (f j)) ∙ sym k

    cancel : (n g v e r : ℕ) → 0 < g → r ≡ n * g → r * e ≡ v * g → v ≡ n * e
    cancel n g v e r G q k = eq_of_mul-eq-mul_right g G v (n * e) (sym k ∙ rw q (omega arith))

    zero-first : (n g e r : ℕ) → 0 < g → 0 < e → r ≡ n * g → r * e ≡ 0 → n ≡ 0
    zero-first zero g e r G E q k = refl
    zero-first (suc n) g e r G E q k = absurd (no-product (suc n * g * e) (mul-pos (mul-pos (zero-lt-suc n) G) E) (rw q at k))

    both : (s a b c d : Bool) → a ≡ b → c ≡ d → (a && (beq false s || c)) ≡ (b && (not s || d))
    both true a b c d h k = cc
    both false a b c d h k = cc

-- the double of n equals a double that is n
whole-eq : (x : Float) (n : ℕ) → IsWhole x n → eq (double n) x ≡ true
whole-eq nan n h = elim h [ ]
whole-eq (inf _) n h = elim h [ ]
whole-eq (fin s m e) n h =
    same-value (double n) n s m e (double-value n h.1) ∙
    go (eqb (m * up e) (n * down e)) (not s || eqb n 0)
    (subst (λ (y : ℕ). T (eqb (m * up e) y)) h.0 (eqb_refl (m * up e))) h.2
  where
    go : (a b : Bool) → T a → T b → (a && b) ≡ true
    go true true x y = refl
    go true false x y = absurd y
    go false b x y = absurd x

no-eq-nan : (y : Float) → eq y nan ≡ true → ⊥
unfolding eq
no-eq-nan nan t = false≢true t
no-eq-nan (inf s) t = false≢true t
no-eq-nan (fin s m e) t = false≢true t

no-eq-inf : (y : Float) (s : Bool) (n : ℕ) → HasValue y false n 1 → eq y (inf s) ≡ true → ⊥
unfolding eq
no-eq-inf nan s n v t = elim v [ ]
no-eq-inf (inf _) s n v t = elim v [ ]
no-eq-inf (fin u m e) s n v t = false≢true t

-- and no other
eq-whole : (x : Float) (n : ℕ) → n ≤ mass_limit → eq (double n) x ≡ true → IsWhole x n
eq-whole nan n h t = absurd (no-eq-nan (double n) t)
eq-whole (inf s) n h t = absurd (no-eq-inf (double n) s n (double-value n h) t)
eq-whole (fin s m e) n h t =
    let k : (eqb (m * up e) (n * down e) && (not s || eqb n 0)) ≡ true = sym (same-value (double n) n s m e (double-value n h)) ∙ t in
    let b : T (eqb (m * up e) (n * down e) && (not s || eqb n 0)) = subst T (sym k) tt in (
      eqb→eq (m * up e) (n * down e) (and_l (eqb (m * up e) (n * down e)) (not s || eqb n 0) b),
      h,
      and_r (eqb (m * up e) (n * down e)) (not s || eqb n 0) b,
    )

other-mass : (n : ℕ) → None ≡ Some n → ⊥
other-mass n e = let z : ◌≡◌ {A = ℕ} 0 1 = cc in omega arith

-- A whole number is no negative one, no fraction and not above 2⁵³: where a test of the program fails, the double is none.
pub none_below : (x : Float) → lt (fin true 1 (pos 0)) x ≡ false → whole_of x ≡ None
none_below x t = none_of x (λ n h. false≢true (sym t ∙ above_minus_one x n h))

pub none_above : (x : Float) → lt x (fin false 1 (pos 64)) ≡ false → whole_of x ≡ None
none_above x t = none_of x (λ n h. false≢true (sym t ∙ below_top x n h))

limit-of : (x : Float) (n : ℕ) → IsWhole x n → n ≤ mass_limit
limit-of nan n h = elim h [ ]
limit-of (inf _) n h = elim h [ ]
limit-of (fin s m e) n h = h.1

pub none-large : (x : Float) (k : ℕ) → k ≡ to_unsigned 64 x → mass_limit < k → whole_of x ≡ None
none-large x k e l = none_of x (λ n h. not-large k n (e ∙ cut-is x n h) l (limit-of x n h))
  where
    not-large : (k n : ℕ) → k ≡ n → mass_limit < k → n ≤ mass_limit → ⊥
    not-large k n e l h = omega arith

pub none-unequal : (x : Float) (k : ℕ) → k ≡ to_unsigned 64 x → eq (double k) x ≡ false → whole_of x ≡ None
none-unequal x k e t = none_of x (λ n h. false≢true (sym t ∙ ap (λ (j : ℕ). eq (double j) x) (e ∙ cut-is x n h) ∙ whole-eq x n h))

pub mass-equal : (x : Float) (k : ℕ) → k ≤ mass_limit → eq (double k) x ≡ true → whole_of x ≡ Some k
mass-equal x k h t = mass-of x k (eq-whole x k h t)

-- the bits of 0, plus or minus
bits-of-zero : (s : Bool) (n : ℕ) → n ≡ 0
    → cond s (top binary64) 0 + (size n - prec binary64) * hid binary64 + n / 2 ^ (size n - prec binary64) ≡ cond s (2 ^ 63) 0
unfolding size
bits-of-zero true n e = rw e refl
bits-of-zero false n e = rw e refl

zero_bits_lem : (x : Float) → IsWhole x 0 → zero_bits x ≡ true
unfolding zero_bits to_bits
zero_bits_lem nan h = elim h [ ]
zero_bits_lem (inf _) h = elim h [ ]
zero_bits_lem (fin s m e) h =
    let none : m * up e ≡ 0 = omega (arith, h.0) in
    let small : m * up e * 2 ^ low binary64 / down e ≡ 0 = rw none (zero-div (down e)) in
    rw (bits-of-zero s _ small) (either-zero s)
  where
    either-zero : (s : Bool) → leb (1023 * 2 ^ 52) ((cond s (2 ^ 63) 0 % 2 ^ 63 + (2 ^ 63 - 1)) % 2 ^ 63) ≡ true
    either-zero true = refl
    either-zero false = refl

-- what is cut to 0 and has other bits is a fraction
pub none-small : (x : Float) (k : ℕ) → k ≡ to_unsigned 64 x → k ≡ 0 → zero_bits x ≡ false → whole_of x ≡ None
none-small x k e z t =
    none_of x (λ n h. let same : n ≡ 0 = omega (arith, cut-is x n h) in false≢true (sym t ∙ zero_bits_lem x (rw same at h)))

-- a double that the definition takes for n is n
pub whole_is : (x : Float) (n : ℕ) → whole_of x ≡ Some n → IsWhole x n
unfolding whole_of
whole_is nan n h = absurd (other-mass n h)
whole_is (inf s) n h = absurd (other-mass n h)
whole_is (fin s m e) n h =
    let k : ℕ = m * up e / down e in
    tests k (eqb (m * up e) (k * down e)) (leb k mass_limit) (not s || eqb k 0) (eqb→eq (m * up e) (k * down e)) (leb→le k mass_limit) (λ z. z) h
  where
    same : (k : ℕ) → Some k ≡ Some n → k ≡ n
    same k e' = cc

    tests : (k : ℕ) (a b c : Bool) → (T a → m * up e ≡ k * down e) → (T b → k ≤ mass_limit)
        → (T c → T (not s || eqb k 0)) → cond (a && b && c) (Some k) None ≡ Some n → IsWhole (fin s m e) n
    tests k true true true f g j e' = subst (λ (t : ℕ). IsWhole (fin s m e) t) (same k e') (f tt, g tt, j tt)
    tests k true true false f g j e' = absurd (other-mass n e')
    tests k true false c f g j e' = absurd (other-mass n e')
    tests k false b c f g j e' = absurd (other-mass n e')

-- so it is at most 2⁵³
pub whole-limit : (x : Float) (n : ℕ) → whole_of x ≡ Some n → n ≤ mass_limit
whole-limit x n h = limit-of x n (whole_is x n h)

-- the double of n is n
pub double-whole : (n : ℕ) → n ≤ mass_limit → IsWhole (double n) n
double-whole n h = go (double n) (double-value n h)
  where
    go : (x : Float) → HasValue x false n 1 → IsWhole x n
    go nan v = elim v [ ]
    go (inf _) v = elim v [ ]
    go (fin true m e) v = absurd (true≢false v.0)
    go (fin false m e) v = (omega (arith, v.1), h, tt)

pub double-mass : (n : ℕ) → n ≤ mass_limit → whole_of (double n) ≡ Some n
double-mass n h = mass-of (double n) n (double-whole n h)

-- two whole doubles are equal where their numbers are
pub double-eq : (m n : ℕ) → m ≤ mass_limit → n ≤ mass_limit → eq (double m) (double n) ≡ eqb m n
double-eq m n h k = go (double n) (double-value n k)
  where
    cross : (v d n m : ℕ) → 0 < d → v * 1 ≡ n * d → eqb v (m * d) ≡ eqb m n
    cross v d n m D q = pick (eqb m n) refl
      where
        pick : (t : Bool) → eqb m n ≡ t → eqb v (m * d) ≡ eqb m n
        pick true e = eq-eqb v (m * d) (rw (eqb-true m n e) (omega arith)) ∙ sym e
        pick false e = ne_eqb v (m * d) (λ j. eqb-false m n e (eq_of_mul-eq-mul_right d D m n (sym j ∙ omega arith))) ∙ sym e

    strip : (b c : Bool) → b ≡ c → (b && true) ≡ c
    strip true c e = e
    strip false c e = e

    go : (y : Float) → HasValue y false n 1 → eq (double m) y ≡ eqb m n
    go nan v = elim v [ ]
    go (inf _) v = elim v [ ]
    go (fin true b d) v = absurd (true≢false v.0)
    go (fin false b d) v =
        same-value (double m) m false b d (double-value m h) ∙
        strip (eqb (b * up d) (m * down d)) (eqb m n) (cross (b * up d) (down d) n m (down_pos d) v.1)

-- what is above −1 is no NaN
pub above_no_nan : (x : Float) → T (lt (fin true 1 (pos 0)) x) → T (not (is_nan x))
unfolding lt is_nan
above_no_nan nan t = absurd t
above_no_nan (inf s) t = tt
above_no_nan (fin s m e) t = tt
