-- One field more, one row more.
-- Assumes nothing.
use mathlib.Core.List.{List, [], ◌∷◌, ◌++◌, append_assoc, append-nil}
use mathlib.Core.Path.{◌≡◌, refl, sym, ◌∙◌, ap}
use Prim.Native.Nat.{ℕ, suc, zero, ◌+◌, ◌-◌, ◌*◌, ◌/◌, ◌≤◌, ◌<◌}
use native.Mathlib.Numerals.{add-one}
use native.Mathlib.Omega.{arith}
use lib.ListN.{length, get_or, take, drop}
use Rattle.std.proofs.lemmas.List.{take_more, take-take, drop-take, drop-drop, length-take-le}
use Rattle.std.specs.Simd.{first_chunks}
use Rattle.text.specs.Ascii.{bytes}
use Rattle.text.specs.Decimal.{digits}
use Rattle.text.specs.Lines.{field, fields, line, between, six, row_line, row_lines, sum_lines}

fields-append : (first next : List ℕ) → fields (first ++ next) ≡ fields first ++ fields next
unfolding fields
fields-append [] next = refl
fields-append (word ∷ first) next = rw (fields-append first next) (sym (append_assoc (field word) (fields first) (fields next)))

-- the fields of the first k + 1 words are those of the first k and the next
pub fields-more : (words : List ℕ) (k : ℕ) → k < length words → fields (take (k + 1) words) ≡ fields (take k words) ++ field (get_or words k 0)
unfolding fields
fields-more words k h =
    rw (take_more words k 0 h)
    (fields-append (take k words) (get_or words k 0 ∷ []) ∙ ap (λ (text : List ℕ). fields (take k words) ++ text)
    (append-nil (field (get_or words k 0))))

pub rows_more : (words : List ℕ) (i : ℕ) → row_lines words (i + 1) ≡ row_lines words i ++ row_line words i
unfolding row_lines
rows_more words i = rw add-one

-- The rows of six words each: that of row i stands at 6 i.
chunk-is : (words : List ℕ) (n i : ℕ) (d : List ℕ) → i < n → get_or (first_chunks 6 n words) i d ≡ take 6 (drop (6 * i) words)
chunk-is words zero i d h = absurd (omega arith)
chunk-is words (suc n) zero d h = refl
chunk-is words (suc n) (suc i) d h =
    chunk-is (drop 6 words) n i d (omega arith) ∙
    ap (take 6) (drop-drop (6 * i) 6 words ∙ ap (λ (k : ℕ). drop k words) {x = 6 + 6 * i} {y = 6 * suc i} (omega arith))

six-is : (words : List ℕ) (at : ℕ) → six at words ≡ take 6 (drop at words)
six-is words at = ap (λ (k : ℕ). take k (drop at words)) {x = at + 6 - at} {y = 6} (omega arith)

-- the line of one row more
pub row-behind : (words : List ℕ) {rows : List (List ℕ)} {n i : ℕ} (d : List ℕ) → rows ≡ first_chunks 6 n words → i < n
    → row_lines words i ++ line (bytes "row " ++ digits (i + 1)) (get_or rows i d) ≡ row_lines words (i + 1)
unfolding row_line
row-behind words {rows} {n} {i} d e h =
    ap (λ (row : List ℕ). row_lines words i ++ line (bytes "row " ++ digits (i + 1)) row)
    (rw e (chunk-is words n i d h) ∙ sym (six-is words (6 * i))) ∙
    sym (rows_more words i)

-- The words of the rows stand at the front of those of a report,
six-front : (words : List ℕ) (at k : ℕ) → 6 ≤ k → six at (take (at + k) words) ≡ six at words
six-front words at k h =
    six-is (take (at + k) words) at ∙ ap (take 6) (drop-take at k words) ∙ take-take 6 k (drop at words) h ∙ sym (six-is words at)

rows-front : (words : List ℕ) (m n : ℕ) → 6 * n ≤ m → row_lines (take m words) n ≡ row_lines words n
unfolding row_lines row_line
rows-front words m zero h = refl
rows-front words m (suc n) h =
    let last : six (6 * n) (take m words) ≡ six (6 * n) words =
    ap (λ (k : ℕ). six (6 * n) (take k words)) {x = m} {y = 6 * n + (m - 6 * n)} (omega arith) ∙ six-front words (6 * n) (m - 6 * n) (omega arith)
    in
    rw (rows-front words m n (omega arith), last) refl

pub rows_in : (words : List ℕ) (rows : ℕ) {front : List ℕ} → front ≡ take (6 * rows) words → 6 * rows ≤ length words
    → row_lines front (length front / 6) ≡ row_lines words rows
rows_in words rows {front} e h =
    let long : length front / 6 ≡ rows = omega (arith, ap length e, length-take-le (6 * rows) words h) in
    rw (long, e) (rows-front words (6 * rows) rows (omega arith))

-- and those of the lines below them behind.
between-behind : (words : List ℕ) (k a e a' e' : ℕ) → a' ≡ k + a → e' ≡ k + e → between a e (drop k words) ≡ between a' e' words
between-behind words k a e a' e' f g =
    ap (take (e - a)) (drop-drop a k words ∙ ap (λ (j : ℕ). drop j words) (sym f)) ∙
    ap (λ (j : ℕ). take j (drop a' words)) {x = e - a} {y = e' - a'} (omega arith)

pub sums-behind : (words : List ℕ) (k : ℕ) {behind : List ℕ} → behind ≡ drop k words → sum_lines behind 0 ≡ sum_lines words k
unfolding sum_lines
sums-behind words k e =
    let part = between-behind words k in
    rw (
      e,
      part 0 6 k (k + 6) (omega arith) (omega arith),
      part 6 12 (k + 6) (k + 6 + 6) (omega arith) (omega arith),
      part 12 18 (k + 12) (k + 12 + 6) (omega arith) (omega arith),
      part 18 24 (k + 18) (k + 18 + 6) (omega arith) (omega arith),
      part 24 26 (k + 24) (k + 26) (omega arith) (omega arith),
    )
    refl
