-- Whole numbers in decimal, as bytes. Definitions only.
use Rattle.std.specs.Prelude.{true, false, List, [], ◌∷◌, ◌++◌, ℕ, suc, zero, ◌+◌, ◌*◌, ◌-◌, ◌/◌, ◌%◌, ◌≤◌, ◌<◌, ltb, length, get_or}

-- the byte of a digit: `0` is 48
abbrev pub digit : ℕ → ℕ
digit d = 48 + d

-- below 10 the digit n, else n / 10 in decimal and behind it the digit n % 10, in so many steps at most
unfoldable pub digits_in : ℕ → ℕ → List ℕ
digits_in zero n = []
digits_in (suc steps) n = elim (ltb n 10) [ true ↦ digit n ∷ [] | false ↦ digits_in steps (n / 10) ++ (digit (n % 10) ∷ []) ]

-- n in decimal: n + 1 steps are more than enough
unfoldable pub digits : ℕ → List ℕ
digits n = digits_in (suc n) n

-- What tells that this is the decimal of n, by the laws `digits_value`, `digits-numeral` and `digits-only` in proofs/Digits.

-- the value of a text by place, behind digits of a given value: each digit counts ten times as much as the next
unfoldable pub value_behind : ℕ → List ℕ → ℕ
value_behind front [] = front
value_behind front (byte ∷ text) = value_behind (10 * front + (byte - 48)) text

-- at least one digit, nothing but digits, and no zero in front of others
pub record Numeral (text : List ℕ) : Type 0 where
  pub some : 1 ≤ length text
  pub digit-least : (k : ℕ) → k < length text → 48 ≤ get_or text k 0
  pub digit-most : (k : ℕ) → k < length text → get_or text k 0 ≤ 57
  pub no-zero-first : 2 ≤ length text → 49 ≤ get_or text 0 0
