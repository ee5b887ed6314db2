-- Each hourly weight is the whole number nearest to 10⁹·E(−0.0247·d²), d the hours of the shorter way to 14:00, for every n of 40 or more: one
-- test over the 48 weights, and the law that carries it to every n. And the curve runs round the day unbroken.
use mathlib.Core.Bool.{Bool, true, false, ◌&&◌, beq}
use mathlib.Core.Path.{◌≡◌, refl}
use Prim.Native.Nat.{ℕ, suc, ◌+◌, ◌*◌, ◌-◌, ◌%◌, ◌^◌, ◌≤◌, ◌<◌}
use native.Mathlib.Omega.{arith}
use native.Mathlib.Decide.{dec_le}
use native.Mathlib.Nat.{mul-le-mul, mul-le-mul_right, le_of_mul-le-mul_right, zero-sub, sub-zero}
use lib.Dec.{T, lit<, leb, ltb, leb→le, eqb, eqb→eq}
use lib.ListN.{get_or, replicate, get_or-eq_default}
use Rattle.numbers.specs.Fraction.{Fraction, ◌≤ᶠ◌, ◌≈ᶠ◌, ◌+ᶠ◌, negᶠ, ◌-ᶠ◌, ◌*ᶠ◌, ◌^ᶠ◌, whole, ◌/10^◌, ◌over◌}
use Rattle.bounds.specs.Series.{E}
use Rattle.numbers.proofs.Order.{ratio, sub-mul}
use Rattle.bounds.proofs.Exponential.{quotient, E-at}
use Rattle.bounds.proofs.Tail.{below_test, below}
use Rattle.bounds.proofs.Table.{both, both_left, both_right, every, at}
use Rattle.bounds.specs.Weights.{weights, w, one_way, apart, weight_exponent, Nearest, NearestTheorem, RoundTheDay}
use Rattle.bounds.specs.Ahead.{ahead}

-- the denominator of the exponents
abbrev parts : ℕ
parts = 40000

-- −0.0247·(d/2)² is −247·d²/40000
unfoldable exponent : ℕ → ℕ
exponent i = 247 * (apart i * apart i)

-- over the distance alone
exponent-of : (d : ℕ) → negᶠ (247 /10^ 4 *ᶠ (whole d over 2) ^ᶠ 2) ≈ᶠ record { up = 0; down = 247 * (d * d); den = parts; pos = lit< tt }
unfolding negᶠ ◌/10^◌ ◌*ᶠ◌ whole ◌over◌ ◌^ᶠ◌
exponent-of d = record { cross = omega arith }

exponent-is : (i : ℕ) → weight_exponent i ≈ᶠ record { up = 0; down = exponent i; den = parts; pos = lit< tt }
unfolding weight_exponent exponent
exponent-is i = exponent-of (apart i)

-- at most 12 hours
pub apart-most : (i : ℕ) → apart i ≤ 24
unfolding apart
apart-most i = omega arith

-- it is below 41, so that the tail after the fortieth term is known
exponent-size : (i : ℕ) → exponent i < parts * 41
unfolding exponent
exponent-size i = omega (arith, mul-le-mul (apart-most i) (apart-most i))

-- within 0.49 of 10⁹·E, for every n from 40 on: (w − 0.49)·Sₙ ≤ 10⁹·Sₙ(0) ≤ (w + 0.49)·Sₙ, in hundredths
nearest_test : ℕ → ℕ → Bool
nearest_test i weight =
    both (below_test parts 40 (100 * weight - 49) (exponent i) (10 ^ 11) 0)
    (below_test parts 40 (10 ^ 11) 0 (100 * weight + 49) (exponent i))

-- antt computes it at all 48
all_pass : T (every nearest_test 0 weights)
unfolding nearest_test below_test exponent one_way apart weights
all_pass = tt

-- w − 0.49 ≤ 10⁹·x for x = a/b with (w − 0.49)·b ≤ 10⁹·a
near-below : {x : Fraction} (weight a b : ℕ) (pos : 0 < b) → x ≈ᶠ ratio a b pos → (100 * weight - 49) * b ≤ 10 ^ 11 * a
    → whole weight -ᶠ 49 /10^ 2 ≤ᶠ whole (10 ^ 9) *ᶠ x
unfolding ◌+ᶠ◌ ◌-ᶠ◌ negᶠ ◌*ᶠ◌ whole ◌/10^◌ ratio
near-below {x} weight a b pos e h =
    let l : 100 * weight * b ≤ 10 ^ 11 * a + 49 * b = omega (arith, simp sub-mul at h) in
    record { cross = le_of_mul-le-mul_right {k = b} (omega (arith, e.cross, mul-le-mul_right x.den l)) pos }

-- 10⁹·x ≤ w + 0.49 for x = a/b with 10⁹·a ≤ (w + 0.49)·b
near-above : {x : Fraction} (weight a b : ℕ) (pos : 0 < b) → x ≈ᶠ ratio a b pos → 10 ^ 11 * a ≤ (100 * weight + 49) * b
    → whole (10 ^ 9) *ᶠ x ≤ᶠ whole weight +ᶠ 49 /10^ 2
unfolding ◌+ᶠ◌ ◌*ᶠ◌ whole ◌/10^◌ ratio
near-above {x} weight a b pos e h =
    record { cross = le_of_mul-le-mul_right {k = b} (omega (arith, e.cross, mul-le-mul_right x.den h)) pos }

-- a weight that passes the test is nearest
passes→nearest : (i weight : ℕ) → T (nearest_test i weight) → Nearest i weight
unfolding nearest_test
passes→nearest i weight t =
    let k = exponent i in
    let down = below_test parts 40 (100 * weight - 49) k (10 ^ 11) 0 in
    let up = below_test parts 40 (10 ^ 11) 0 (100 * weight + 49) k in
    let is : (n : ℕ) → E n (weight_exponent i) ≈ᶠ quotient n 0 k parts (lit< tt) = λ n. E-at n 0 k parts _ (exponent-is i) in
    record {
      low = λ n m.
          near-below weight _ _ _ (is n)
          (rw (zero-sub, sub-zero) (below parts 40 _ k _ 0 (lit< tt) (exponent-size i) (both_left down up t) n m));
      high = λ n m.
          near-above weight _ _ _ (is n)
          (rw (zero-sub, sub-zero) (below parts 40 _ 0 _ k (lit< tt) (lit< tt) (both_right down up t) n m));
    }

pub weight-nearest : NearestTheorem
unfolding weights
weight-nearest i h = passes→nearest i (w i) (at nearest_test weights all_pass i h)

-- w(i) ≤ 10⁹
pub w-most : (i : ℕ) → w i ≤ 10 ^ 9
unfolding weights
w-most i =
    elim (dec_le 48 i) [
      | yes l ↦ rw (get_or-eq_default weights 0 l) (omega arith)
      | no l ↦ leb→le (get_or weights i 0) (10 ^ 9) (at (λ (k x : ℕ). leb x (10 ^ 9)) weights tt i (omega arith))
    ]

-- Round the day.

-- hour 24 is as far from 14:00 as hour 0
midnight : apart 48 ≡ apart 0
unfolding apart one_way
midnight = refl

-- from mark to mark the way is half an hour longer or shorter, from the last mark to the first too: longer from 14:00 to 2:00
further_test : ℕ → ℕ → Bool
further_test k unused = eqb (apart ((28 + k + 1) % 48)) (apart ((28 + k) % 48) + 1)

further : (k : ℕ) → k < 24 → apart ((28 + k + 1) % 48) ≡ apart ((28 + k) % 48) + 1
unfolding apart one_way further_test
further k h = eqb→eq _ _ (at further_test (replicate 24 0) tt k h)

-- and shorter from 2:00 to 14:00
nearer_test : ℕ → ℕ → Bool
nearer_test k unused = eqb (apart (4 + k)) (apart (4 + k + 1) + 1)

nearer : (k : ℕ) → k < 24 → apart (4 + k) ≡ apart (4 + k + 1) + 1
unfolding apart one_way nearer_test
nearer k h = eqb→eq _ _ (at nearer_test (replicate 24 0) tt k h)

-- marks as far from 14:00 have one weight
alike_test : ℕ → ℕ → Bool
alike_test i unused = eqb (w (ahead (apart i))) (w i)

pub apart-alike : (i : ℕ) → i < 48 → w (ahead (apart i)) ≡ w i
unfolding weights apart one_way alike_test
apart-alike i h = eqb→eq _ _ (at alike_test (replicate 48 0) tt i h)

-- so the weights fall once round the day, over midnight,
fall_test : ℕ → ℕ → Bool
fall_test k unused = leb (suc (w ((28 + k + 1) % 48))) (w ((28 + k) % 48))

falls : (k : ℕ) → k < 24 → w ((28 + k + 1) % 48) < w ((28 + k) % 48)
unfolding weights fall_test
falls k h = leb→le _ _ (at fall_test (replicate 24 0) tt k h)

-- and rise once, from 2:00
rise_test : ℕ → ℕ → Bool
rise_test k unused = leb (suc (w (4 + k))) (w (4 + k + 1))

rises : (k : ℕ) → k < 24 → w (4 + k) < w (4 + k + 1)
unfolding weights rise_test
rises k h = leb→le _ _ (at rise_test (replicate 24 0) tt k h)

lowest_test : ℕ → ℕ → Bool
lowest_test i unused = leb (w 4) (w i)

lowest : (i : ℕ) → i < 48 → w 4 ≤ w i
unfolding weights lowest_test
lowest i h = leb→le _ _ (at lowest_test (replicate 48 0) tt i h)

pub round-the-day : RoundTheDay
round-the-day = record {
  midnight = midnight;
  at-most-12-hours = apart-most;
  further = further;
  nearer = nearer;
  falls = falls;
  rises = rises;
  lowest = lowest;
}

-- so from a mark to the next the weight rises just from mark 4 to mark 28
way_test : ℕ → ℕ → Bool
way_test i unused = beq (leb (w i) (w ((i + 1) % 48))) (leb 4 i && ltb i 28)

pub rises-where : (i : ℕ) → i < 48 → leb (w i) (w ((i + 1) % 48)) ≡ (leb 4 i && ltb i 28)
unfolding weights way_test
rises-where i h = same _ _ (at way_test (replicate 48 0) tt i h)
  where
    same : (a b : Bool) → T (beq a b) → a ≡ b
    same true true t = refl
    same true false t = absurd t
    same false true t = absurd t
    same false false t = refl
