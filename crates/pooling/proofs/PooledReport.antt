-- The report of a pooled sheet: both sheets' row words, and every sum the sum of theirs; and that of the pool in the other order.
-- Assumes nothing.
use mathlib.Core.Bool.{Bool}
use mathlib.Core.List.{List}
use mathlib.Core.Path.{◌≡◌, refl, sym, ap, ◌∙◌}
use Prim.Native.Nat.{ℕ, suc, zero, ◌+◌, ◌*◌, ◌/◌, ◌%◌, ◌≤◌, ◌<◌}
use native.Mathlib.Decide.{dec_le, ℕ_discrete}
use native.Mathlib.Nat.{le_dest}
use native.Mathlib.Omega.{arith}
use lib.ListN.{length}
use Rattle.numbers.specs.Lists.{at}
use Rattle.sheet.specs.Integers.{u8_at}
use Rattle.sheet.specs.Versions.{version_of}
use Rattle.sheet.specs.Bytes.{seasons_of, rows_of, row_place, row_at}
use Rattle.sheet.proofs.Conditions.{sheet-judged}
use Rattle.sheet.proofs.Local.{Same}
use Rattle.sheet.proofs.NextVersion.{SheetKept, cells-kept, season-list-kept}
use Rattle.report_words.specs.Report.{words_of, subtotal, grand_total, report}
use Rattle.report_words.specs.Categories.{any_class}
use Rattle.report_words.specs.Categories.{category}
use Rattle.report_words.proofs.ReportPlaces.{row-word-at, category-word-at, total-at}
use Rattle.pooling.specs.Pool.{rows_together, pool, shared_bytes}
use Rattle.pooling.specs.PooledReport.{RowMoved, totals_word, PoolTheorem, OrderTheorem}
use Rattle.pooling.proofs.PoolBytes.{Pair, exchanged, start, length-is, first_byte, low_byte, high_byte, rows-pool, pool-long, kept-first}
use Rattle.pooling.proofs.PoolBytes.{kept_second, place-pool, first-same, second-same, row_first, row-second}
use Rattle.pooling.proofs.PoolAnswers.{poolable}
use Rattle.pooling.proofs.RefusedOnly.{passes-exchanged}

-- a row that t has of s, with the same parking and seasons
row_moved : {s t : List ℕ} (i j : ℕ) → SheetKept s t → Same t s (row_place t j) (row_place s i) 24 → row_at t j ≡ row_at s i
    → i < rows_of s → j < rows_of t → RowMoved s t i j
unfolding words_of
row_moved {s} {t} i j kept bytes row l m =
    let words : words_of t j ≡ words_of s i = rw (cells-kept kept, season-list-kept kept, row) in
    record {
      bytes = bytes.byte;
      masses = λ n mechanism. rw (cells-kept kept, season-list-kept kept, row);
      words = λ k b. row-word-at t j k m b ∙ rw words (sym (row-word-at s i k l b));
    }

-- a row that two sheets have of one
moved-both : {s t u : List ℕ} {i j k : ℕ} → RowMoved s t i j → RowMoved s u i k → RowMoved t u j k
moved-both m n = record {
  bytes = λ x l. n.bytes x l ∙ sym (m.bytes x l);
  masses = λ x mechanism. n.masses x mechanism ∙ sym (m.masses x mechanism);
  words = λ x l. n.words x l ∙ sym (m.words x l);
}

-- the first 24 of the words after the rows, and the last two
category-sum : (s : List ℕ) (k : ℕ) → k < 24 → totals_word s k ≡ subtotal s (category (k / 6)) (rows_of s) (k % 6)
category-sum s k l =
    ap (at (report s)) {x = 6 * rows_of s + k} {y = 6 * (rows_of s + k / 6) + k % 6} (omega arith) ∙
    category-word-at s (k / 6) (k % 6) (omega arith) (omega arith)

total-sum : (s : List ℕ) (j : ℕ) → j < 2 → totals_word s (24 + j) ≡ grand_total s j
total-sum s j l = ap (at (report s)) {x = 6 * rows_of s + (24 + j)} {y = 6 * rows_of s + 24 + j} (omega arith) ∙ total-at s j l

module _ {a b : List ℕ} (h : Pair a b) where
  first-moved : (i : ℕ) → i < rows_of a → RowMoved a (pool a b) i i
  first-moved i l = row_moved i i (kept-first h) (first-same h i l) (row_first h i l) l (omega (arith, rows-pool h))

  second-moved : (i : ℕ) → i < rows_of b → RowMoved b (pool a b) i (rows_of a + i)
  second-moved i l = row_moved i (rows_of a + i) (kept_second h) (second-same h i l) (row-second h i l) l (omega (arith, rows-pool h))

  -- the six words of a row
  words-first : (i : ℕ) → i < rows_of a → words_of (pool a b) i ≡ words_of a i
  unfolding words_of
  words-first i l = rw (cells-kept (kept-first h), season-list-kept (kept-first h), row_first h i l)

  words-second : (i : ℕ) → i < rows_of b → words_of (pool a b) (rows_of a + i) ≡ words_of b i
  unfolding words_of
  words-second i l = rw (cells-kept (kept_second h), season-list-kept (kept_second h), row-second h i l)

  -- summed over the rows of a category: those of the first,
  subtotal-first : (f : ℕ → Bool) (n j : ℕ) → n ≤ rows_of a → subtotal (pool a b) f n j ≡ subtotal a f n j
  unfolding subtotal
  subtotal-first f zero j l = refl
  subtotal-first f (suc n) j l = cc (subtotal-first f n j (omega arith), words-first n l, row_first h n l)

  -- and with so many of the second's
  subtotal-both : (f : ℕ → Bool) (n j : ℕ) → n ≤ rows_of b → subtotal (pool a b) f (rows_of a + n) j ≡ subtotal a f (rows_of a) j + subtotal b f n j
  unfolding subtotal
  subtotal-both f zero j l =
      let e : rows_of a + 0 ≡ rows_of a = omega arith in
      rw e (subtotal-first f (rows_of a) j (omega arith) ∙ omega arith)
  subtotal-both f (suc n) j l =
      let e : rows_of a + suc n ≡ suc (rows_of a + n) = omega arith in
      rw (e, row-second h n l, words-second n l) (omega (arith, subtotal-both f n j (omega arith)))

  subtotal-pool : (f : ℕ → Bool) (j : ℕ) → subtotal (pool a b) f (rows_of (pool a b)) j ≡ subtotal a f (rows_of a) j + subtotal b f (rows_of b) j
  subtotal-pool f j = rw (rows-pool h) (subtotal-both f (rows_of b) j (omega arith))

  total-pool : (j : ℕ) → grand_total (pool a b) j ≡ grand_total a j + grand_total b j
  unfolding grand_total
  total-pool j = omega (arith, subtotal-pool any_class j, subtotal-pool any_class (2 + j), subtotal-pool any_class (4 + j))

  -- "every subtotal is the sum of theirs", and so are the grand totals
  sums-pool : (k : ℕ) → k < 26 → totals_word (pool a b) k ≡ totals_word a k + totals_word b k
  sums-pool k l =
      elim (dec_le 24 k) [
        | yes m ↦
            let (j, e) = le_dest m in
            let b2 : j < 2 = omega arith in
            rw (← e) (omega (arith, total-sum (pool a b) j b2, total-sum a j b2, total-sum b j b2, total-pool j))
        | no m ↦
            let b24 : k < 24 = omega arith in
            omega (arith, category-sum (pool a b) k b24, category-sum a k b24, category-sum b k b24, subtotal-pool (category (k / 6)) (k % 6))
      ]

pub pooled-report : PoolTheorem
pooled-report a b room pass =
    let h = (poolable a b room pass).both in
    record { rows = rows-pool h; first = first-moved h; second = second-moved h; sums = sums-pool h }

-- The other order: before the rows the two pools have the same bytes,
module _ {a b : List ℕ} (h : Pair a b) where
  -- the letters, the version and the number of seasons,
  head-same : (k : ℕ) → k < 6 → u8_at b k ≡ u8_at a k
  head-same k l =
      let ((ea, va), pa) = ((sheet-judged a).passes h.first.passed).0.0.1 in
      let ((eb, vb), pb) = ((sheet-judged b).passes h.second.passed).0.0.1 in
      let version : version_of b ≡ version_of a = h.second.version ∙ sym h.first.version in
      by_place k (eb ∙ sym ea) (vb ∙ sym va) (pb ∙ sym pa) (omega (arith, h.first.version, h.second.version))
      (omega (arith, h.first.version, h.second.version)) (sym h.agree.0) l
    where
      by_place : (k : ℕ) → u8_at b 0 ≡ u8_at a 0 → u8_at b 1 ≡ u8_at a 1 → u8_at b 2 ≡ u8_at a 2 → u8_at b 3 ≡ u8_at a 3
          → u8_at b 4 ≡ u8_at a 4 → u8_at b 5 ≡ u8_at a 5
          → k < 6 → u8_at b k ≡ u8_at a k
      by_place zero p q r s t u l = p
      by_place (suc zero) p q r s t u l = q
      by_place (suc (suc zero)) p q r s t u l = r
      by_place (suc (suc (suc zero))) p q r s t u l = s
      by_place (suc (suc (suc (suc zero)))) p q r s t u l = t
      by_place (suc (suc (suc (suc (suc zero))))) p q r s t u l = u
      by_place (suc (suc (suc (suc (suc (suc k)))))) p q r s t u l = absurd (omega arith)

  -- the row count,
  together : rows_together b a ≡ rows_together a b
  together = omega arith

  count_same : (k : ℕ) → 6 ≤ k → k < 8 → u8_at (pool b a) k ≡ u8_at (pool a b) k
  count_same k l m =
      let long-a : 8 ≤ length a = omega (arith, length-is h.first) in
      let long-b : 8 ≤ length b = omega (arith, length-is h.second) in
      elim (ℕ_discrete k 6) [
        | yes e ↦ rw e (low_byte b a long-b ∙ rw together (sym (low_byte a b long-a)))
        | no n ↦
            let e : k ≡ 7 = omega arith in
            rw e (high_byte b a long-b ∙ rw together (sym (high_byte a b long-a)))
      ]

  -- and the parking and the seasons
  before-rows : (k : ℕ) → k < row_place (pool a b) 0 → u8_at (pool b a) k ≡ u8_at (pool a b) k
  before-rows k l =
      elim (dec_le 8 k) [
        | yes m ↦
            let (d, e) = le_dest m in
            let within : d < shared_bytes (seasons_of b) = omega (arith, place-pool h 0, start h.first, h.agree.0) in
            rw (← e) ((kept-first (exchanged h)).bytes d within ∙ sym ((kept_second h).bytes d within))
        | no m ↦
            elim (dec_le 6 k) [
              | yes n ↦ count_same k n (omega arith)
              | no n ↦
                  first_byte b a k (omega (arith, length-is h.second)) (λ e. omega arith) (λ e. omega arith) ∙
                  head-same k (omega arith) ∙
                  sym (first_byte a b k (omega (arith, length-is h.first)) (λ e. omega arith) (λ e. omega arith))
            ]
      ]

pub other-order : OrderTheorem
other-order a b room pass =
    let h = (poolable a b room pass).both in
    let o = exchanged h in
    record {
      accepted = passes-exchanged a b room pass;
      length-same = omega (arith, pool-long a h.second, pool-long b o.second, length-is h.first, length-is h.second, h.agree.0);
      before-rows = before-rows h;
      first = λ i l. moved-both (first-moved h i l) (second-moved o i l);
      second = λ i l. moved-both (second-moved h i l) (first-moved o i l);
      sums = λ k l. omega (arith, sums-pool h k l, sums-pool o k l);
    }
