-- `digits n` is the decimal of n: its value by place is n, it has digits alone and no zero in front, and no other text has both.
-- Assumes nothing.
use mathlib.Core.List.{List, [], ◌∷◌, ◌++◌, append-nil, append_assoc}
use mathlib.Core.Path.{◌≡◌, refl, sym, ◌∙◌, ap}
use Prim.Native.Nat.{ℕ, suc, zero, ◌+◌, ◌*◌, ◌-◌, ◌/◌, ◌%◌, ◌^◌, ◌≤◌, ◌<◌}
use native.Mathlib.Decide.{dec_le}
use native.Mathlib.Nat.{pow-suc}
use native.Mathlib.Omega.{arith}
use borrow.Author.Tests.{lt-ltb, le-ltb}
use lib.ListN.{length, get_or, length-append, get_or-append}
use Rattle.text.specs.Decimal.{digit, digits_in, digits, value_behind, Numeral}

-- Below 10 and above, in so many steps.
in_small : (k n : ℕ) → n < 10 → digits_in (suc k) n ≡ digit n ∷ []
unfolding digits_in
in_small k n h = rw (lt-ltb n 10 h, digits_in)

in-large : (k n : ℕ) → 10 ≤ n → digits_in (suc k) n ≡ digits_in k (n / 10) ++ (digit (n % 10) ∷ [])
unfolding digits_in
in-large k n h = rw (le-ltb n 10 h, digits_in)

-- more steps than n change nothing
in-enough : (k j n : ℕ) → n < k → n < j → digits_in k n ≡ digits_in j n
in-enough zero j n h g = absurd (omega arith)
in-enough (suc k) zero n h g = absurd (omega arith)
in-enough (suc k) (suc j) n h g =
    let tenth = in-enough k j (n / 10) in
    elim (dec_le 10 n) [
      | yes l ↦
          in-large k n l ∙
          ap (λ (text : List ℕ). text ++ (digit (n % 10) ∷ [])) (tenth (omega arith) (omega arith)) ∙
          sym (in-large j n l)
      | no l ↦ in_small k n (omega arith) ∙ sym (in_small j n (omega arith))
    ]

-- The two equations of `digits`, on which all else rests.
pub digits-small : (n : ℕ) → n < 10 → digits n ≡ digit n ∷ []
unfolding digits
digits-small n h = in_small n n h

pub digits-large : (n : ℕ) → 10 ≤ n → digits n ≡ digits (n / 10) ++ (digit (n % 10) ∷ [])
unfolding digits
digits-large n h =
    in-large n n h ∙
    ap (λ (text : List ℕ). text ++ (digit (n % 10) ∷ [])) (in-enough n (suc (n / 10)) (n / 10) (omega arith) (omega arith))

-- what holds of one digit, and of n where it holds of n / 10, holds of every number
module _ (P : ℕ → List ℕ → Type 0)
    (one : (n : ℕ) → n < 10 → P n (digit n ∷ []))
    (more : (n : ℕ) → 10 ≤ n → P (n / 10) (digits (n / 10)) → P n (digits (n / 10) ++ (digit (n % 10) ∷ []))) where
  below : (k n : ℕ) → n < k → P n (digits n)
  below zero n h = absurd (omega arith)
  below (suc k) n h =
      let tenth = below k (n / 10) in
      elim (dec_le 10 n) [
        | yes l ↦ rw (digits-large n l) (more n l (tenth (omega arith)))
        | no l ↦ rw (digits-small n (omega arith)) (one n (omega arith))
      ]

  pub by_digits : (n : ℕ) → P n (digits n)
  by_digits n = below (suc n) n (omega arith)

-- The value by place.
value-last : (front : ℕ) (text : List ℕ) (byte : ℕ) → value_behind front (text ++ (byte ∷ [])) ≡ 10 * value_behind front text + (byte - 48)
unfolding value_behind
value-last front [] byte = refl
value-last front (first ∷ text) byte = value-last (10 * front + (first - 48)) text byte

pub digits_value : (n : ℕ) → value_behind 0 (digits n) ≡ n
unfolding value_behind
digits_value = by_digits (λ n text. value_behind 0 text ≡ n) one more
  where
    one : (n : ℕ) → n < 10 → value_behind 0 (digit n ∷ []) ≡ n
    one n h = omega arith

    more : (n : ℕ) → 10 ≤ n → value_behind 0 (digits (n / 10)) ≡ n / 10 → value_behind 0 (digits (n / 10) ++ (digit (n % 10) ∷ [])) ≡ n
    more n h e = value-last 0 (digits (n / 10)) (digit (n % 10)) ∙ rw e (omega arith)

-- each byte is a digit
record Each (text : List ℕ) : Type 0 where
  pub least : (k : ℕ) → k < length text → 48 ≤ get_or text k 0
  pub most : (k : ℕ) → k < length text → get_or text k 0 ≤ 57

each_none : Each []
each_none = record { least = λ k h. absurd (omega arith); most = λ k h. absurd (omega arith) }

each-cons : {byte : ℕ} {text : List ℕ} → 48 ≤ byte → byte ≤ 57 → Each text → Each (byte ∷ text)
each-cons {byte} {text} l m e = record { least = low; most = high }
  where
    low : (k : ℕ) → k < length (byte ∷ text) → 48 ≤ get_or (byte ∷ text) k 0
    low zero h = l
    low (suc k) h = e.least k (omega arith)

    high : (k : ℕ) → k < length (byte ∷ text) → get_or (byte ∷ text) k 0 ≤ 57
    high zero h = m
    high (suc k) h = e.most k (omega arith)

each-rest : {byte : ℕ} {text : List ℕ} → Each (byte ∷ text) → Each text
each-rest e = record { least = λ k h. e.least (suc k) (omega arith); most = λ k h. e.most (suc k) (omega arith) }

each_last : (text : List ℕ) {byte : ℕ} → Each text → 48 ≤ byte → byte ≤ 57 → Each (text ++ (byte ∷ []))
each_last [] e l m = each-cons l m each_none
each_last (first ∷ text) e l m = each-cons (e.least 0 (omega arith)) (e.most 0 (omega arith)) (each_last text (each-rest e) l m)

-- Digits alone, and the first is `0` of the number 0 alone.
record Spelled (n : ℕ) (text : List ℕ) : Type 0 where
  pub some : 1 ≤ length text
  pub each : Each text
  pub no-zero-first : 1 ≤ n → 49 ≤ get_or text 0 0

digits-spelled : (n : ℕ) → Spelled n (digits n)
digits-spelled = by_digits Spelled one more
  where
    one : (n : ℕ) → n < 10 → Spelled n (digit n ∷ [])
    one n h = record { some = omega arith; each = each-cons (omega arith) (omega arith) each_none; no-zero-first = λ l. omega arith }

    more : (n : ℕ) → 10 ≤ n → Spelled (n / 10) (digits (n / 10)) → Spelled n (digits (n / 10) ++ (digit (n % 10) ∷ []))
    more n h d = record {
      some = omega (arith, d.some, length-append (digits (n / 10)) (digit (n % 10) ∷ []));
      each = each_last (digits (n / 10)) d.each (omega arith) (omega arith);
      no-zero-first = λ l. rw (get_or-append (digits (n / 10)) (digit (n % 10) ∷ []) 0 0 d.some) (d.no-zero-first (omega arith));
    }

pub digits-numeral : (n : ℕ) → Numeral (digits n)
digits-numeral n =
    let d = digits-spelled n in
    record {
      some = d.some;
      digit-least = d.each.least;
      digit-most = d.each.most;
      no-zero-first = λ l.
          elim (dec_le 10 n) [
            | yes h ↦ d.no-zero-first (omega arith)
            | no h ↦ absurd (omega (arith, l, ap length (digits-small n (omega arith))))
          ];
    }

-- digits behind those of a number that is not 0
digits-behind : (front : ℕ) (text : List ℕ) → 1 ≤ front → Each text → digits (value_behind front text) ≡ digits front ++ text
unfolding value_behind
digits-behind front [] h e = sym (append-nil (digits front))
digits-behind front (byte ∷ text) h e =
    let l : 48 ≤ byte = e.least 0 (omega arith) in
    let m : byte ≤ 57 = e.most 0 (omega arith) in
    let n : ℕ = 10 * front + (byte - 48) in
    let tenth : n / 10 ≡ front = omega arith in
    let last : digit (n % 10) ≡ byte = omega arith in
    let one : digits n ≡ digits front ++ (byte ∷ []) = digits-large n (omega arith) ∙ rw (tenth, last) in
    digits-behind n text (omega arith) (each-rest e) ∙ rw one (append_assoc (digits front) (byte ∷ []) text)

-- Every numeral is the decimal of its value.
pub digits-only : (text : List ℕ) → Numeral text → digits (value_behind 0 text) ≡ text
unfolding value_behind
digits-only [] d = absurd (omega (arith, d.some))
digits-only (byte ∷ text) d =
    let each : Each (byte ∷ text) = record { least = d.digit-least; most = d.digit-most } in
    let l : 48 ≤ byte = d.digit-least 0 (omega arith) in
    let m : byte ≤ 57 = d.digit-most 0 (omega arith) in
    let same : digit (10 * 0 + (byte - 48)) ≡ byte = omega arith in
    let one : digits (10 * 0 + (byte - 48)) ≡ byte ∷ [] = digits-small (10 * 0 + (byte - 48)) (omega arith) ∙ rw same in
    elim (dec_le 1 (byte - 48)) [
      | yes h ↦ digits-behind (10 * 0 + (byte - 48)) text (omega arith) (each-rest each) ∙ rw one
      | no h ↦ alone text d (omega arith) one
    ]
  where
    -- a first digit 0 has none behind it
    alone : {byte : ℕ} (text : List ℕ) → Numeral (byte ∷ text) → byte ≤ 48 → digits (10 * 0 + (byte - 48)) ≡ byte ∷ []
        → digits (value_behind (10 * 0 + (byte - 48)) text) ≡ byte ∷ text
    alone [] d h one = one
    alone (next ∷ text) d h one = absurd (omega (arith, d.no-zero-first (omega arith)))

-- k + 1 digits are enough below 10 ^ (k + 1), so 20 for a word
digits-most : (k n : ℕ) → n < 10 ^ suc k → length (digits n) ≤ suc k
digits-most zero n h = rw (digits-small n (omega arith)) (omega arith)
digits-most (suc k) n h =
    let tenth = digits-most k (n / 10) in
    elim (dec_le 10 n) [
      | yes l ↦ rw (digits-large n l, length-append) (omega (arith, tenth (omega (arith, pow-suc 10 (suc k)))))
      | no l ↦ rw (digits-small n (omega arith)) (omega arith)
    ]

pub word-digits : (n : ℕ) → n < 2 ^ 64 → length (digits n) ≤ 20
word-digits n h = digits-most 19 n (omega arith)
