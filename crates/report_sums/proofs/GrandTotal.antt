-- The grand total from the words of the report that stand before it.
-- Assumes nothing.
use Rattle.std.proofs.Common.{◌≡◌, ℕ, zero, suc, ◌+◌, ◌*◌, ◌<◌, ◌≤◌, List, [], ◌∷◌, length, get_or, take, set, sym, ap, ◌∙◌, arith}
use lib.Seq.{sets}
use Rattle.numbers.specs.Lists.{tab}
use Rattle.sheet.specs.Bytes.{rows_of}
use Rattle.report_words.specs.Report.{subtotal, grand_total}
use Rattle.report_words.specs.Categories.{any_class}
use Rattle.report_words.specs.Years.{filled, report_word}
use Rattle.report_words.specs.Categories.{category}
use Rattle.report_words.proofs.Filled.{filled-run, filled-same, filled-all, first-at}
use Rattle.report_words.proofs.ReportPlaces.{category-word-at, total-at}

module _ (s words : List ℕ) (first : take (6 * rows_of s + 24) words ≡ tab (report_word s) (6 * rows_of s + 24)) where
  -- word j of all rows
  all-rows : (j k : ℕ) → j < 6 → k ≡ 6 * rows_of s + 18 + j → get_or words k 0 ≡ subtotal s any_class (rows_of s) j
  unfolding category
  all-rows j k h e =
      let place : k ≡ 6 * (rows_of s + 3) + j = omega arith in
      first-at (report_word s) words _ k first (omega arith) ∙ ap (report_word s) place ∙ category-word-at s 3 j (omega arith) h

  -- "low and high of the grand total, each the sum of three"
  pub three-words : (j k : ℕ) → j < 2 → k ≡ 6 * rows_of s + 18 + j
      → get_or words k 0 + get_or words (k + 2) 0 + get_or words (k + 4) 0 ≡ grand_total s j
  unfolding grand_total
  three-words j k h e =
      omega (
        arith,
        all-rows j k (omega arith) e,
        all-rows (2 + j) (k + 2) (omega arith) (omega arith),
        all-rows (4 + j) (k + 4) (omega arith) (omega arith),
      )

  -- both stored after the categories
  pub totals-stored : (k next : ℕ) {low high : ℕ} → 6 * rows_of s + 26 ≤ length words → k ≡ 6 * rows_of s + 24
      → next ≡ suc k → low ≡ grand_total s 0 → high ≡ grand_total s 1
      → set (set words k low) next high ≡ filled (report_word s) (6 * rows_of s + 26) words
  totals-stored k next {low} {high} h e f l g =
      let word : (m : ℕ) → m < 2 → get_or (low ∷ high ∷ []) m 0 ≡ report_word s (6 * rows_of s + 24 + m) = λ m b. pair m b ∙ sym (total-at s m b) in
      let stored : sets words (6 * rows_of s + 24) (low ∷ high ∷ []) ≡ filled (report_word s) (6 * rows_of s + 24 + 2) words =
      ap (λ (w : List ℕ). sets w (6 * rows_of s + 24) (low ∷ high ∷ [])) (filled-same (report_word s) words _ first) ∙
      filled-run (report_word s) words (6 * rows_of s + 24) (low ∷ high ∷ []) (omega arith) word in
      rw (f, e) (stored ∙ filled-all (report_word s) words _ _ (omega arith) (omega arith))
    where
      pair : (m : ℕ) → m < 2 → get_or (low ∷ high ∷ []) m 0 ≡ grand_total s m
      pair zero b = l
      pair (suc zero) b = g
      pair (suc (suc m)) b = absurd (omega arith)
