-- What the search finds, for M from 17 to 1,000,000 and every n from 40 upward: E(enough) is at least M, E(log_lower) is below M.
-- Assumes nothing.
use mathlib.Core.Bool.{Bool, true, false, cond}
use mathlib.Core.Path.{◌≡◌, refl, subst}
use Prim.Native.Nat.{ℕ, suc, zero, ◌+◌, ◌*◌, ◌-◌, ◌^◌, ◌≤◌, ◌<◌}
use native.Mathlib.Omega.{arith}
use native.Mathlib.Decide.{dec_le}
use native.Mathlib.Nat.{mul-le-mul_left, pow-suc}
use lib.ListN.{get_or}
use borrow.Author.Tests.{leb-true, leb-false, le-leb, lt-leb}
use Rattle.numbers.specs.Fraction.{◌≤ᶠ◌, whole, ◌/10^◌}
use Rattle.bounds.specs.Series.{E}
use Rattle.bounds.specs.Exponential.{exponential}
use Rattle.numbers.proofs.Order.{≤_trans, ratio}
use Rattle.bounds.proofs.Laws.{exponential-at-0, exponential-at-1_41, E-to-2_8201, far-triple, far-2, far-14}
use Rattle.bounds.specs.WholeExponents.{far}
use Rattle.thresholds.specs.Thresholds.{near_error, within, digit, digits, first_after, first_kilometres, whole_above, enough, margin, log_lower}
use Rattle.thresholds.proofs.Threshold.{exponents, reached, beyond}

-- The test, in whole numbers.

-- M·E(d) ≤ E(c) where it passes
within-yes : (M c d : ℕ) → within M c d ≡ true → M * (exponential (16 * 10 ^ 14 + d) + near_error) ≤ get_or far c 0 * 2 ^ 10
unfolding within
within-yes M c d e = leb-true _ _ e

-- E(c) < M·E(d) where it fails
within-no : (M c d : ℕ) → within M c d ≡ false → get_or far c 0 * 2 ^ 10 < M * (exponential (16 * 10 ^ 14 + d) + near_error)
unfolding within
within-no M c d e = leb-false _ _ e

-- it passes
yes-within : (M c d : ℕ) → M * (exponential (16 * 10 ^ 14 + d) + near_error) ≤ get_or far c 0 * 2 ^ 10 → within M c d ≡ true
unfolding within
yes-within M c d h = le-leb _ _ h

-- it fails
no_within : (M c d : ℕ) → get_or far c 0 * 2 ^ 10 < M * (exponential (16 * 10 ^ 14 + d) + near_error) → within M c d ≡ false
unfolding within
no_within M c d h = lt-leb _ _ h

-- The two searches.

-- r is the last d before `to` that passes
record Last (M c to r : ℕ) : Type 0 where
  passes : within M c r ≡ true
  fails : within M c (r + 1) ≡ false
  below : r < to

-- so many digits find the last d of a stretch whose first passes and whose end fails
digits_last : (M c left d : ℕ) → within M c d ≡ true → within M c (d + 2 ^ left) ≡ false → Last M c (d + 2 ^ left) (digits M c left d)
unfolding digits digit
digits_last M c zero d h k = record { passes = h; fails = k; below = omega arith }
digits_last M c (suc left) d h k =
    go (within M c (d + 2 ^ left)) refl (digits_last M c left (d + 2 ^ left)) (digits_last M c left d)
  where
    double : d + 2 ^ left + 2 ^ left ≡ d + 2 ^ suc left
    double = rw pow-suc (omega arith)

    go : (t : Bool) → within M c (d + 2 ^ left) ≡ t
        → (within M c (d + 2 ^ left) ≡ true → within M c (d + 2 ^ left + 2 ^ left) ≡ false
        → Last M c (d + 2 ^ left + 2 ^ left) (digits M c left (d + 2 ^ left)))
        → (within M c d ≡ true → within M c (d + 2 ^ left) ≡ false → Last M c (d + 2 ^ left) (digits M c left d))
        → Last M c (d + 2 ^ suc left) (digits M c left (cond t (d + 2 ^ left) d))
    go true e upper lower = rw double at (upper e (rw double k))
    go false e upper lower =
        let l = lower h e in
        record { passes = l.passes; fails = l.fails; below = rw (← double) (omega (arith, l.below)) }

-- c is the first whole exponent that passes, of those after `from` up to `to`
record First (M from to c : ℕ) : Type 0 where
  before : ℕ
  next : c ≡ suc before
  passes : within M c 0 ≡ true
  fails : within M before 0 ≡ false
  least : from ≤ before
  most : c ≤ to

-- the search finds it where c fails and the last that it can come to passes
first_after-is : (M tries c : ℕ) → within M c 0 ≡ false → within M (suc c + tries) 0 ≡ true → First M c (suc c + tries) (first_after M tries c)
unfolding first_after
first_after-is M zero c h k = record {
  before = c;
  next = refl;
  passes = subst (λ (x : ℕ). within M x 0 ≡ true) (omega arith) k;
  fails = h;
  least = omega arith;
  most = omega arith;
}
first_after-is M (suc tries) c h k = go (within M (suc c) 0) refl (first_after-is M tries (suc c))
  where
    shift : suc c + suc tries ≡ suc (suc c) + tries
    shift = omega arith

    go : (t : Bool) → within M (suc c) 0 ≡ t
        → (within M (suc c) 0 ≡ false → within M (suc (suc c) + tries) 0 ≡ true
        → First M (suc c) (suc (suc c) + tries) (first_after M tries (suc c)))
        → First M c (suc c + suc tries) (cond t (suc c) (first_after M tries (suc c)))
    go true e later = record { before = c; next = refl; passes = e; fails = h; least = omega arith; most = omega arith }
    go false e later =
        let l = later e (subst (λ (x : ℕ). within M x 0 ≡ true) shift k) in
        record {
          before = l.before;
          next = l.next;
          passes = l.passes;
          fails = l.fails;
          least = omega (arith, l.least);
          most = rw shift l.most;
        }

-- What is found.

-- an exponent of at most 2.8201
exponents-decimal : (y : ℕ) → y ≤ 28201 * 10 ^ 10 → exponents y ≤ᶠ 28201 /10^ 4
unfolding ratio ◌/10^◌
exponents-decimal y h = omega arith

-- M is above 16.9
too_small : (M : ℕ) → first_kilometres ≤ M → ¬ (whole M ≤ᶠ 169 /10^ 1)
unfolding whole ◌/10^◌
too_small M h l = omega (arith, l.cross)

module _ (M : ℕ) (least : first_kilometres ≤ M) (most : M ≤ 10 ^ 6) where
  -- E(2) is less than 17
  from-2 : within M 2 0 ≡ false
  from-2 = no_within M 2 0 (rw exponential-at-0 (omega (arith, far-2)))

  -- E(14) is more than 1,000,000
  to-14 : within M 14 0 ≡ true
  to-14 = yes-within M 14 0 (rw exponential-at-0 (omega (arith, far-14)))

  -- so the whole exponent is found
  above : First M 2 14 (whole_above M)
  unfolding whole_above
  above = first_after-is M 11 2 from-2 to-14

  -- from it, 2⁴⁷ units down are too far: E there is a quarter or less, and a whole exponent down it is a third or more and below M
  too_far : (p : ℕ) → p < 14 → within M p 0 ≡ false → within M (suc p) (0 + 2 ^ 47) ≡ false
  too_far p h e =
      no_within M (suc p) (0 + 2 ^ 47)
      (spread (get_or far p 0) (get_or far (suc p) 0) (exponential (16 * 10 ^ 14 + 2 ^ 47))
      (rw exponential-at-0 at (within-no M p 0 e)) (far-triple p h) exponential-at-1_41)
    where
      spread : (f f' x : ℕ) → f * 2 ^ 10 < M * (2 ^ 40 + near_error) → f' ≤ 3 * f → 4 * 2 ^ 40 ≤ x → f' * 2 ^ 10 < M * (x + near_error)
      spread f f' x a b c = omega (arith, a, b, mul-le-mul_left M c)

  -- so the last d is found
  last : Last M (whole_above M) (0 + 2 ^ 47) (digits M (whole_above M) 47 0)
  last =
      digits_last M (whole_above M) 47 0 above.passes
      (rw above.next (too_far above.before (omega (arith, above.next, above.most)) above.fails))

  -- E(enough) is at least M
  pub enough-reaches : (n : ℕ) → 40 ≤ n → whole M ≤ᶠ E n (exponents (enough M))
  unfolding enough
  enough-reaches =
      let c : ℕ = whole_above M in
      let d : ℕ = digits M c 47 0 in
      let d47 : d < 0 + 2 ^ 47 = last.below in
      let c3 : 3 ≤ c = omega (arith, above.next, above.least) in
      let c14 : c ≤ 14 = above.most in
      reached M c d (c * 10 ^ 14 - d) (omega arith) (omega arith) (omega arith) (within-yes M c d last.passes)

  -- it is above 2.8201, where E is less than 17
  pub enough-least : 28201 * 10 ^ 10 < enough M
  enough-least =
      elim (dec_le (enough M) (28201 * 10 ^ 10)) [
        | yes h ↦
            absurd
            (too_small M least
            (≤_trans (enough-reaches 40 (omega arith))
            (E-to-2_8201 40 (omega arith) (exponents-decimal (enough M) h))))
        | no h ↦ omega arith
      ]

  -- the two are a margin apart
  pub lower-enough : log_lower M + margin ≡ enough M
  unfolding log_lower
  lower-enough = omega (arith, enough-least)

  -- E(log_lower) is below M
  pub lower-fails : (n : ℕ) → 40 ≤ n → ¬ (whole M ≤ᶠ E n (exponents (log_lower M)))
  unfolding enough log_lower
  lower-fails =
      let c : ℕ = whole_above M in
      let d : ℕ = digits M c 47 0 in
      let d47 : d < 0 + 2 ^ 47 = last.below in
      let c3 : 3 ≤ c = omega (arith, above.next, above.least) in
      let c14 : c ≤ 14 = above.most in
      let first : M * (2 ^ 40 + near_error) ≤ get_or far c 0 * 2 ^ 10 = rw exponential-at-0 at (within-yes M c 0 above.passes) in
      beyond M c (d + 1) (c * 10 ^ 14 - d - margin) (omega arith) (omega arith) (omega arith) (omega (arith, first))
      (within-no M c (d + 1) last.fails)
