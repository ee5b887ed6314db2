-- The sums that are taken of a buffer: stores after the rows do not change them, and where the rows' words are the report's, so are the sums.
-- Assumes nothing.
use Rattle.std.proofs.Common.{◌≡◌, ℕ, zero, suc, ◌+◌, ◌*◌, ◌/◌, ◌%◌, ◌^◌, ◌<◌, ◌≤◌, Bool, true, false, List, length, get_or, take, sym, refl, ap, ◌∙◌}
use Rattle.std.proofs.Common.{mod-eq_of_lt, add-one, arith, length-append, length-drop}
use lib.Seq.{sets}
use Rattle.numbers.specs.Lists.{tab, at}
use Rattle.numbers.proofs.Lists.{tab-length, get_d-tab}
use Rattle.sheet.specs.Bytes.{rows_of, row_at}
use Rattle.sheet.proofs.Accepted.{Bytes, Accepted}
use Rattle.report_words.specs.Report.{words_of, subtotal, grand_total}
use Rattle.report_words.specs.Categories.{counted}
use Rattle.report_words.specs.Years.{filled, report_word}
use Rattle.report_words.specs.Categories.{category}
use Rattle.report_words.proofs.Filled.{first-at, filled-same, filled-run, filled-all, filled-less, filled-again}
use Rattle.report_words.proofs.ReportPlaces.{row-word-at, category-word-at}
use Rattle.report_sums.specs.Sums.{buffer_sum, sum_word, summed, three_word, totalled, resummed}
use Rattle.report_sums.proofs.ReportSizes.{subtotal-fits, grand-total-fits}
use Rattle.report_sums.proofs.GrandTotal.{three-words, totals-stored}

-- A loop over the rows: none, and one more.
module _ (s words : List ℕ) (f : ℕ → Bool) where
  pub sum-none : (j : ℕ) → 0 ≡ buffer_sum s words f 0 j % 2 ^ 64
  unfolding buffer_sum
  sum-none j = refl

  module _ (i j sum : ℕ) (e : sum ≡ buffer_sum s words f i j % 2 ^ 64) where
    -- a row that belongs to the category
    pub sum_more : f (row_at s i).class ≡ true → (sum + at words (6 * i + j)) % 2 ^ 64 ≡ buffer_sum s words f (i + 1) j % 2 ^ 64
    unfolding buffer_sum counted
    sum_more h = rw (add-one, h) (omega arith)

    -- and one that does not
    pub sum_same : f (row_at s i).class ≡ false → sum ≡ buffer_sum s words f (i + 1) j % 2 ^ 64
    unfolding buffer_sum counted
    sum_same h = rw (add-one, h) (omega arith)

-- Where the rows' words are the report's.
module _ {s : List ℕ} (bytes : Bytes s) (a : Accepted s) (words : List ℕ)
    (rows : take (6 * rows_of s) words ≡ tab (report_word s) (6 * rows_of s)) where
  sum_is : (f : ℕ → Bool) (n j : ℕ) → n ≤ rows_of s → j < 6 → buffer_sum s words f n j ≡ subtotal s f n j
  unfolding buffer_sum subtotal
  sum_is f zero j h l = refl
  sum_is f (suc n) j h l =
      let word : at words (6 * n + j) ≡ get_or (words_of s n) j 0 =
      first-at (report_word s) words _ (6 * n + j) rows (omega arith) ∙ row-word-at s n j h l in
      cc (sum_is f n j (omega arith) l)

  -- no sum passes 64 bits
  sum-exact : (f : ℕ → Bool) (j : ℕ) → j < 6 → buffer_sum s words f (rows_of s) j % 2 ^ 64 ≡ subtotal s f (rows_of s) j
  sum-exact f j l = rw (sum_is f (rows_of s) j (omega arith) l) (mod-eq_of_lt (subtotal-fits bytes a f (rows_of s) j (omega arith)))

  module _ (room : 6 * rows_of s + 26 ≤ length words) where
    -- the words of the categories,
    sums-are : summed s words ≡ filled (report_word s) (6 * rows_of s + 24) words
    unfolding summed
    sums-are =
        let size = tab-length (sum_word s words) 24 in
        ap (λ (w : List ℕ). sets w (6 * rows_of s) (tab (sum_word s words) 24)) (filled-same (report_word s) words (6 * rows_of s) rows) ∙
        filled-run (report_word s) words (6 * rows_of s) (tab (sum_word s words) 24) (omega arith)
        (λ k l.
        let inside : k < 24 = omega arith in
        let place : 6 * (rows_of s + k / 6) + k % 6 ≡ 6 * rows_of s + k = omega arith in
        get_d-tab (sum_word s words) 24 k inside ∙ sum-exact (category (k / 6)) (k % 6) (omega arith) ∙
        sym (category-word-at s (k / 6) (k % 6) (omega arith) (omega arith)) ∙ ap (report_word s) place) ∙
        filled-all (report_word s) words _ _ (omega arith) (omega arith)

    abbrev summed-words : List ℕ
    summed-words = filled (report_word s) (6 * rows_of s + 24) words

    first : take (6 * rows_of s + 24) summed-words ≡ tab (report_word s) (6 * rows_of s + 24)
    first = filled-less (report_word s) words _ _ (omega arith)

    -- the two totals of these,
    total-is : (j k : ℕ) → j < 2 → k ≡ 6 * rows_of s + 18 + j → three_word summed-words k ≡ grand_total s j
    unfolding three_word
    total-is j k h e = rw (three-words s summed-words first j k h e) (mod-eq_of_lt (grand-total-fits bytes a j))

    -- and so all 26
    pub resummed-is : resummed s words ≡ filled (report_word s) (6 * rows_of s + 26) words
    unfolding resummed totalled
    resummed-is =
        let long : 6 * rows_of s + 26 ≤ length summed-words = simp (length-append, tab-length, length-drop) (omega arith) in
        ap (totalled s) sums-are ∙
        totals-stored s summed-words first (6 * rows_of s + 18 + 6) (6 * rows_of s + 18 + 7) long (omega arith)
        (omega arith) (total-is 0 (6 * rows_of s + 18) (omega arith) (omega arith))
        (total-is 1 (6 * rows_of s + 18 + 1) (omega arith) (omega arith)) ∙
        filled-again (report_word s) (report_word s) words (6 * rows_of s + 24) (6 * rows_of s + 26) (omega arith)
