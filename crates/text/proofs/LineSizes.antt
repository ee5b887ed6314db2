-- How long the lines are at most, where each word has 64 bits: 20 digits and a space.
-- Assumes nothing.
use mathlib.Core.List.{List, [], ◌∷◌, ◌++◌}
use Prim.Native.Nat.{ℕ, suc, zero, ◌+◌, ◌*◌, ◌-◌, ◌^◌, ◌≤◌, ◌<◌}
use native.Mathlib.Nat.{min-le_left}
use native.Mathlib.Omega.{arith}
use lib.ListN.{length, get_or, take, drop, length-append, length-take}
use lib.Seq.{get_or-drop}
use borrow.Enum.Match.{tag_small}
use Rattle.refusals.specs.contracts.Rule.{the_type}
use Rattle.refusals.specs.declared.Refusal.{Refusal}
use Rattle.refusals.specs.Rule.{number}
use Rattle.refusals.proofs.Numbers.{number-is}
use Rattle.text.specs.Ascii.{bytes}
use Rattle.text.specs.Decimal.{digits}
use Rattle.text.specs.Lines.{field, fields, line, pair_line, between, head_line, row_line, row_lines, sum_lines, report_lines, refusal_line}
use Rattle.text.proofs.Digits.{word-digits}

-- each word has 64 bits
pub record Words (words : List ℕ) : Type 0 where
  pub word : (k : ℕ) → get_or words k 0 < 2 ^ 64

words-rest : {first : ℕ} {words : List ℕ} → Words (first ∷ words) → Words words
words-rest w = record { word = λ k. w.word (suc k) }

words-cons : {first : ℕ} {words : List ℕ} → first < 2 ^ 64 → Words words → Words (first ∷ words)
words-cons {first} {words} h w = record { word = go }
  where
    go : (k : ℕ) → get_or (first ∷ words) k 0 < 2 ^ 64
    go zero = h
    go (suc k) = w.word k

pub words-first : (n : ℕ) (words : List ℕ) → Words words → Words (take n words)
words-first zero words w = record { word = λ k. omega arith }
words-first (suc n) [] w = record { word = λ k. omega arith }
words-first (suc n) (first ∷ words) w = words-cons (w.word 0) (words-first n words (words-rest w))

words-between : (a e : ℕ) (words : List ℕ) → Words words → Words (between a e words)
words-between a e words w = words-first (e - a) (drop a words) (record { word = λ k. rw (get_or-drop a words k 0) (w.word (a + k)) })

fields-most : (words : List ℕ) → Words words → length (fields words) ≤ 21 * length words
unfolding fields field
fields-most [] w = omega arith
fields-most (word ∷ words) w =
    let rest = fields-most words (words-rest w) in
    omega (arith, length-append (field word) (fields words), word-digits word (w.word 0))

-- a line of words a to e − 1
line-most : (name : List ℕ) (a e : ℕ) (words : List ℕ) → Words words → length (line name (between a e words)) ≤ length name + 21 * (e - a) + 1
unfolding line
line-most name a e words w =
    let part = between a e words in
    let few : length part ≤ e - a = rw (length-take (e - a) (drop a words)) (min-le_left (e - a) (length (drop a words))) in
    simp length-append (omega (arith, few, fields-most part (words-between a e words w)))

pub pair-most : (first : List ℕ) (a : ℕ) (second : List ℕ) (b : ℕ) → a < 2 ^ 64 → b < 2 ^ 64
    → length (pair_line first a second b) ≤ length first + length second + 41
unfolding pair_line
pair-most first a second b f g = simp length-append (omega (arith, word-digits a f, word-digits b g))

row-most : (words : List ℕ) (i : ℕ) → Words words → i + 1 < 2 ^ 64 → length (row_line words i) ≤ 151
unfolding row_line
row-most words i w h = omega (arith, line-most (bytes "row " ++ digits (i + 1)) (6 * i) (6 * i + 6) words w, word-digits (i + 1) h)

rows-most : (words : List ℕ) (rows : ℕ) → Words words → rows < 2 ^ 64 → length (row_lines words rows) ≤ 151 * rows
unfolding row_lines
rows-most words zero w h = omega arith
rows-most words (suc n) w h =
    let before = rows-most words n w (omega arith) in
    omega (arith, length-append (row_lines words n) (row_line words n), row-most words n w (omega arith))

sums-most : (words : List ℕ) (at : ℕ) → Words words → length (sum_lines words at) ≤ 571
unfolding sum_lines
sums-most words at w =
    simp length-append
    (omega (
      arith,
      line-most (bytes "cars") at (at + 6) words w,
      line-most (bytes "light") (at + 6) (at + 6 + 6) words w,
      line-most (bytes "two") (at + 12) (at + 12 + 6) words w,
      line-most (bytes "all") (at + 18) (at + 18 + 6) words w,
      line-most (bytes "total") (at + 24) (at + 26) words w,
    ))

-- all lines of an accepted sheet
pub report-most : (version rows : ℕ) (words : List ℕ) → version < 2 ^ 64 → rows < 2 ^ 64 → Words words
    → length (report_lines version rows words) ≤ 151 * rows + 622
unfolding report_lines head_line
report-most version rows words v r w =
    simp length-append
    (omega (arith, pair-most (bytes "EVP ") version (bytes " rows ") rows v r, rows-most words rows w r, sums-most words (6 * rows) w))

-- the line of a refused one, whose number is at most 32
pub refusal-most : (refusal : Refusal) → refusal.place < 2 ^ 64 → length (refusal_line (number refusal.rule) refusal.place) ≤ 53
unfolding refusal_line
refusal-most refusal p =
    pair-most (bytes "refused ") (number refusal.rule) (bytes " at ") refusal.place
    (omega (arith, number-is refusal.rule, tag_small the_type refusal.rule)) p
