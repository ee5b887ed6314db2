-- "Every line, a refusal's too, ends with a line feed": the text ends with one, and has as many as it has lines.
-- Assumes nothing.
use mathlib.Core.Bool.{Bool, true, false}
use mathlib.Core.List.{List, [], ◌∷◌, ◌++◌, append_assoc}
use mathlib.Core.Path.{◌≡◌, refl, sym, ap}
use Prim.Native.Nat.{ℕ, suc, zero, ◌+◌, ◌*◌, ◌/◌, ◌%◌, ◌≤◌}
use native.Mathlib.Omega.{arith}
use borrow.Author.Tests.{ne_eqb}
use lib.Dec.{eqb}
use Rattle.text.specs.Ascii.{bytes}
use Rattle.text.specs.Decimal.{digit, digits}
use Rattle.text.specs.Lines.{field, fields, line, pair_line, between, six, head_line, row_line, row_lines, sum_lines, report_lines, refusal_line}
use Rattle.text.proofs.Digits.{by_digits}

abbrev one-if : Bool → ℕ
one-if true = 1
one-if false = 0

-- how many line feeds a text has
unfoldable pub line_feeds : List ℕ → ℕ
line_feeds [] = 0
line_feeds (byte ∷ text) = one-if (eqb byte 10) + line_feeds text

pub feeds-append : (first next : List ℕ) → line_feeds (first ++ next) ≡ line_feeds first + line_feeds next
unfolding line_feeds
feeds-append [] next = omega arith
feeds-append (byte ∷ first) next = rw (feeds-append first next) (omega arith)

pub digits-feeds : (n : ℕ) → line_feeds (digits n) ≡ 0
unfolding line_feeds
digits-feeds = by_digits (λ n text. line_feeds text ≡ 0) (λ n h. digit-feeds n) more
  where
    digit-feeds : (d : ℕ) → line_feeds (digit d ∷ []) ≡ 0
    digit-feeds d = ap (λ (b : Bool). one-if b + 0) (ne_eqb (48 + d) 10 (λ e. omega arith))

    more : (n : ℕ) → 10 ≤ n → line_feeds (digits (n / 10)) ≡ 0 → line_feeds (digits (n / 10) ++ (digit (n % 10) ∷ [])) ≡ 0
    more n h e = omega (arith, feeds-append (digits (n / 10)) (digit (n % 10) ∷ []), digit-feeds (n % 10))

fields-feeds : (words : List ℕ) → line_feeds (fields words) ≡ 0
unfolding fields field line_feeds
fields-feeds [] = refl
fields-feeds (word ∷ words) = omega (arith, feeds-append (field word) (fields words), digits-feeds word, fields-feeds words)

-- a name without one gives a line with one
line-feeds : (name words : List ℕ) → line_feeds name ≡ 0 → line_feeds (line name words) ≡ 1
unfolding line line_feeds
line-feeds name words h = simp feeds-append (omega (arith, h, fields-feeds words))

pub pair-feeds : (first : List ℕ) (a : ℕ) (second : List ℕ) (b : ℕ) → line_feeds first ≡ 0 → line_feeds second ≡ 0
    → line_feeds (pair_line first a second b) ≡ 1
unfolding pair_line line_feeds
pair-feeds first a second b f g = simp feeds-append (omega (arith, digits-feeds a, digits-feeds b))

rows-feeds : (words : List ℕ) (rows : ℕ) → line_feeds (row_lines words rows) ≡ rows
unfolding row_lines row_line line_feeds
rows-feeds words zero = refl
rows-feeds words (suc n) =
    omega (
      arith,
      feeds-append (row_lines words n) (row_line words n),
      rows-feeds words n,
      line-feeds (bytes "row " ++ digits (n + 1)) (six (6 * n) words) (omega (arith, digits-feeds (n + 1))),
    )

-- the head, R rows, and five lines more
pub report-feeds : (version rows : ℕ) (words : List ℕ) → line_feeds (report_lines version rows words) ≡ rows + 6
unfolding report_lines head_line sum_lines line_feeds
report-feeds version rows words =
    let at = 6 * rows in
    simp feeds-append
    (omega (
      arith,
      pair-feeds (bytes "EVP ") version (bytes " rows ") rows refl refl,
      rows-feeds words rows,
      line-feeds (bytes "cars") (six at words) refl,
      line-feeds (bytes "light") (six (at + 6) words) refl,
      line-feeds (bytes "two") (six (at + 12) words) refl,
      line-feeds (bytes "all") (six (at + 18) words) refl,
      line-feeds (bytes "total") (between (at + 24) (at + 26) words) refl,
    ))

pub refusal-feeds : (number place : ℕ) → line_feeds (refusal_line number place) ≡ 1
unfolding refusal_line line_feeds
refusal-feeds number place = pair-feeds (bytes "refused ") number (bytes " at ") place refl refl

-- a text that ends with a line feed
pub record Ended (text : List ℕ) : Type 0 where
  pub body : List ℕ
  pub text-is : text ≡ body ++ bytes "\n"

pub ended-behind : (first : List ℕ) {text : List ℕ} → Ended text → Ended (first ++ text)
ended-behind first {text} e = record { body = first ++ e.body; text-is = rw e.text-is (sym (append_assoc first e.body (bytes "\n"))) }

line-ended : (name words : List ℕ) → Ended (line name words)
unfolding line
line-ended name words = record { body = name ++ fields words; text-is = refl }

sums-ended : (words : List ℕ) (at : ℕ) → Ended (sum_lines words at)
unfolding sum_lines
sums-ended words at =
    ended-behind
    (line (bytes "cars") (six at words) ++ line (bytes "light") (six (at + 6) words) ++ line (bytes "two")
    (six (at + 12) words) ++ line (bytes "all") (six (at + 18) words))
    (line-ended (bytes "total") (between (at + 24) (at + 26) words))

pub report-ended : (version rows : ℕ) (words : List ℕ) → Ended (report_lines version rows words)
unfolding report_lines
report-ended version rows words = ended-behind (head_line version rows ++ row_lines words rows) (sums-ended words (6 * rows))

pub refusal-ended : (number place : ℕ) → Ended (refusal_line number place)
unfolding refusal_line pair_line
refusal-ended number place = record { body = bytes "refused " ++ digits number ++ bytes " at " ++ digits place; text-is = refl }
