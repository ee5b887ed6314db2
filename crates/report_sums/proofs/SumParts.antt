-- The sums of a buffer that is cut in three: the words of the rows, those of the categories, and the rest, which begins with the grand total.
use Rattle.std.proofs.Common.{◌≡◌, ℕ, zero, suc, ◌+◌, ◌-◌, ◌*◌, ◌/◌, ◌%◌, ◌^◌, ◌<◌, ◌≤◌}
use Rattle.std.proofs.Common.{Bool, List, ◌++◌, length, set, take, drop, refl, sym, ap, ◌∙◌, arith}
use Rattle.std.proofs.Common.{length-take-le, get_or-take, append_assoc}
use Rattle.std.proofs.lemmas.List.{set-append_right}
use lib.ListN.{get_or-append}
use lib.Seq.{sets-eq, drop-drop, get_or-drop}
use Rattle.numbers.specs.Lists.{tab, at}
use Rattle.numbers.proofs.Lists.{tab-length, tab-ext, past}
use Rattle.sheet.specs.Bytes.{rows_of}
use Rattle.report_words.specs.Categories.{category}
use Rattle.report_sums.specs.Sums.{buffer_sum, sum_word, summed, three_word, totalled, resummed}

-- a sum over the rows reads no word past theirs
sum_front : (s words : List ℕ) (p : ℕ) (f : ℕ → Bool) (n j : ℕ) → 6 * n ≤ p → j < 6 → buffer_sum s (take p words) f n j ≡ buffer_sum s words f n j
unfolding buffer_sum
sum_front s words p f zero j h l = refl
sum_front s words p f (suc n) j h l = cc (sum_front s words p f n j (omega arith) l, get_or-take p words (6 * n + j) 0 (omega arith))

module _ (s words : List ℕ) {rows categories rest : List ℕ} (room : 6 * rows_of s + 26 ≤ length words) (front : rows ≡ take (6 * rows_of s) words)
    (sums : categories ≡ tab (sum_word s rows) 24) (beyond : rest ≡ drop 24 (drop (6 * rows_of s) words)) where
  rows-long : length rows ≡ 6 * rows_of s
  rows-long = rw front (length-take-le (6 * rows_of s) words (omega arith))

  categories-long : length categories ≡ 24
  categories-long = rw sums (tab-length _ 24)

  -- with the words of the categories
  summed-parts : summed s words ≡ rows ++ (categories ++ rest)
  unfolding summed
  summed-parts =
      let same : categories ≡ tab (sum_word s words) 24 =
      sums ∙ tab-ext 24 (λ k h.
      rw front (ap (λ (v : ℕ). v % 2 ^ 64) (sum_front s words (6 * rows_of s) (category (k / 6)) (rows_of s) (k % 6) (omega arith) (omega arith)))) in
      let long = tab-length (sum_word s words) 24 in
      rw (same, front, beyond)
      (sets-eq (tab (sum_word s words) 24) words (6 * rows_of s) (omega (arith, long)) ∙
      rw long (ap (λ (r : List ℕ). take (6 * rows_of s) words ++ tab (sum_word s words) 24 ++ r) (sym (drop-drop 24 (6 * rows_of s) words)) ∙
      append_assoc (take (6 * rows_of s) words) (tab (sum_word s words) 24) (drop 24 (drop (6 * rows_of s) words))))

  -- word j of all rows is where the sum of three reads it
  all-at : (j k : ℕ) → j < 6 → k ≡ 6 * rows_of s + 18 + j → at (rows ++ (categories ++ rest)) k ≡ at (drop 18 categories) j
  all-at j k h e =
      past rows (categories ++ rest) (6 * rows_of s) (18 + j) k rows-long (omega arith) ∙
      get_or-append categories rest 0 (18 + j) (omega (arith, categories-long)) ∙ sym (get_or-drop 18 categories j 0)

  three-at : (j k : ℕ) → j < 2 → k ≡ 6 * rows_of s + 18 + j → three_word (rows ++ (categories ++ rest)) k ≡ three_word (drop 18 categories) j
  unfolding three_word
  three-at j k h e =
      rw (all-at j k (omega arith) e, all-at (j + 2) (k + 2) (omega arith) (omega arith), all-at (j + 4) (k + 4) (omega arith) (omega arith)) refl

  -- word m of the rest
  set-rest : (tail : List ℕ) (m k v : ℕ) → k ≡ 6 * rows_of s + 24 + m → set (rows ++ (categories ++ tail)) k v ≡ rows ++ (categories ++ set tail m v)
  set-rest tail m k v e =
      let first : k - 6 * rows_of s - 24 ≡ m = omega arith in
      set-append_right rows (categories ++ tail) (6 * rows_of s) k v rows-long (omega arith) ∙
      ap (λ (r : List ℕ). rows ++ r) (set-append_right categories tail 24 (k - 6 * rows_of s) v categories-long (omega arith)) ∙
      ap (λ (n : ℕ). rows ++ (categories ++ set tail n v)) first

  -- all 26
  pub resummed-parts : {low high : ℕ} → low ≡ three_word (drop 18 categories) 0 → high ≡ three_word (drop 18 categories) 1
      → rows ++ (categories ++ set (set rest 0 low) 1 high) ≡ resummed s words
  unfolding resummed totalled
  resummed-parts l h =
      let first : ℕ = three_word (drop 18 categories) 0 in
      let second : ℕ = three_word (drop 18 categories) 1 in
      rw (
        summed-parts,
        three-at 0 (6 * rows_of s + 18) (omega arith) (omega arith),
        three-at 1 (6 * rows_of s + 18 + 1) (omega arith)
            (omega arith),
        l,
        h,
      )
      (sym
      (ap (λ (w : List ℕ). set w (6 * rows_of s + 18 + 7) second) (set-rest rest 0 (6 * rows_of s + 18 + 6) first (omega arith)) ∙
      set-rest (set rest 0 first) 1 (6 * rows_of s + 18 + 7) second (omega arith)))
