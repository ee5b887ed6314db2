-- The 26 words that the code stores after the rows' words are their exact sums, where none passes 64 bits.
use mathlib.Core.Bool.{Bool}
use mathlib.Core.List.{List, [], ◌∷◌, ◌++◌, append-nil}
use mathlib.Core.Path.{◌≡◌, refl, sym, ◌∙◌, ap}
use Prim.Native.Nat.{ℕ, suc, zero, ◌+◌, ◌*◌, ◌/◌, ◌%◌, ◌^◌, ◌≤◌, ◌<◌}
use native.Mathlib.Nat.{mod-eq_of_lt}
use native.Mathlib.Omega.{arith}
use lib.ListN.{length, get_or, take, drop, length-append, length-drop, drop_of_length-le, get_or-append}
use lib.Seq.{sets, sets-eq, take_at, drop_at, drop-drop, get_or-take}
use Rattle.numbers.specs.Lists.{tab, at}
use Rattle.numbers.proofs.Lists.{tab-length, get_d-tab, tab-ext, past}
use Rattle.sheet.specs.Bytes.{rows_of}
use Rattle.report_words.specs.Categories.{category}
use Rattle.report_sums.specs.Sums.{buffer_sum, sum_word, summed, three_word, totalled, resummed}
use Rattle.season_report.specs.Seasons.{sums_of, total_of, with_sums}

-- equal words of the rows have equal sums
sums_same : (s words rows : List ℕ) (f : ℕ → Bool) (n j : ℕ) → j < 6 → ((k : ℕ) → k < 6 * n → at words k ≡ at rows k)
    → buffer_sum s words f n j ≡ buffer_sum s rows f n j
unfolding buffer_sum
sums_same s words rows f zero j l h = refl
sums_same s words rows f (suc n) j l h =
    cc (sums_same s words rows f n j l (λ k m. h k (omega arith)), h (6 * n + j) (omega arith))

-- there are 24 subtotals,
pub sums-length : (s rows : List ℕ) → length (sums_of s rows) ≡ 24
unfolding sums_of
sums-length s rows = tab-length _ 24

-- each the sum of a category's words
pub sums_at : (s rows : List ℕ) (k : ℕ) → k < 24 → at (sums_of s rows) k ≡ buffer_sum s rows (category (k / 6)) (rows_of s) (k % 6)
unfolding sums_of
sums_at s rows k h = get_d-tab _ 24 k h

-- The words of the rows with the subtotals behind them.
module _ (s rows : List ℕ) (long : length rows ≡ 6 * rows_of s) where
  pub front : length (rows ++ sums_of s rows) ≡ 6 * rows_of s + 24
  front = length-append rows (sums_of s rows) ∙ omega (arith, sums-length s rows)

  -- a subtotal, whatever stands beyond
  pub subtotal_at : (beyond : List ℕ) (k m : ℕ) → m < 24 → k ≡ 6 * rows_of s + m
      → at (rows ++ sums_of s rows ++ beyond) k ≡ at (sums_of s rows) m
  subtotal_at beyond k m h e =
      get_or-append (rows ++ sums_of s rows) beyond 0 k (omega (arith, front)) ∙ past rows (sums_of s rows) (6 * rows_of s) m k long e

-- none passes 64 bits
pub record SumsFit (s rows : List ℕ) : Type 0 where
  pub sum_fits : (f : ℕ → Bool) (j : ℕ) → j < 6 → buffer_sum s rows f (rows_of s) j < 2 ^ 64
  pub total-fits : (j : ℕ) → j < 2 → total_of (sums_of s rows) j < 2 ^ 64

module _ (s words rows : List ℕ) (long : length rows ≡ 6 * rows_of s) (first : take (6 * rows_of s) words ≡ rows)
    (room : 6 * rows_of s + 26 ≤ length words) (fits : SumsFit s rows) where
  word_same : (k : ℕ) → k < 6 * rows_of s → at words k ≡ at rows k
  word_same k h = sym (get_or-take (6 * rows_of s) words k 0 h) ∙ ap (λ (r : List ℕ). get_or r k 0) first

  sum-word : (k : ℕ) → k < 24 → sum_word s words k ≡ buffer_sum s rows (category (k / 6)) (rows_of s) (k % 6)
  sum-word k h =
      rw (sums_same s words rows (category (k / 6)) (rows_of s) (k % 6) (omega arith) word_same)
      (mod-eq_of_lt (fits.sum_fits (category (k / 6)) (k % 6) (omega arith)))

  sums-tab : tab (sum_word s words) 24 ≡ sums_of s rows
  unfolding sums_of
  sums-tab = tab-ext 24 sum-word

  -- the subtotals stored
  abbrev middle : List ℕ
  middle = rows ++ sums_of s rows ++ drop (6 * rows_of s + 24) words

  summed-is : summed s words ≡ middle
  unfolding summed
  summed-is =
      rw sums-tab
      (sets-eq (sums_of s rows) words (6 * rows_of s) (omega (arith, sums-length s rows)) ∙ rw (first, sums-length s rows) refl)

  three : (j k : ℕ) → j < 2 → k ≡ 6 * rows_of s + 18 + j → three_word middle k ≡ total_of (sums_of s rows) j
  unfolding three_word
  three j k h e =
      rw (
        subtotal_at s rows long _ k (18 + j) (omega arith) (omega arith),
        subtotal_at s rows long _ (k + 2) (20 + j) (omega arith) (omega arith),
        subtotal_at s rows long _ (k + 4) (22 + j) (omega arith) (omega arith),
      ) (mod-eq_of_lt (fits.total-fits j h))

  -- two words stored after the subtotals
  pair-stored : (p q a b : ℕ) → p ≡ 6 * rows_of s + 24 → q ≡ suc (6 * rows_of s + 24)
      → sets (sets middle p (a ∷ [])) q (b ∷ []) ≡ rows ++ sums_of s rows ++ (a ∷ b ∷ []) ++ drop (6 * rows_of s + 26) words
  pair-stored p q a b e f =
      let rest : drop (6 * rows_of s + 24) middle ≡ drop (6 * rows_of s + 24) words =
      drop_at (rows ++ sums_of s rows) (drop (6 * rows_of s + 24) words) (6 * rows_of s + 24) (front s rows long) in
      let beyond : drop (6 * rows_of s + 24 + 2) middle ≡ drop (6 * rows_of s + 26) words =
      sym (drop-drop 2 (6 * rows_of s + 24) middle) ∙ ap (drop 2) rest ∙ drop-drop 2 (6 * rows_of s + 24) words ∙
      ap (λ (k : ℕ). drop k words) {x = 6 * rows_of s + 24 + 2} {y = 6 * rows_of s + 26} (omega arith) in
      let whole : length middle ≡ length words =
      length-append (rows ++ sums_of s rows) (drop (6 * rows_of s + 24) words) ∙
      omega (arith, front s rows long, length-drop (6 * rows_of s + 24) words) in
      rw (e, f)
      (sets-eq (a ∷ b ∷ []) middle (6 * rows_of s + 24) (omega arith) ∙
      rw (take_at (rows ++ sums_of s rows) (drop (6 * rows_of s + 24) words) (6 * rows_of s + 24) (front s rows long), beyond) refl)

  -- all 26
  pub resummed-exact : resummed s words ≡ with_sums s rows ++ drop (6 * rows_of s + 26) words
  unfolding resummed totalled with_sums
  resummed-exact =
      ap (totalled s) summed-is ∙
      rw (
        three 0 (6 * rows_of s + 18) (omega arith) (omega arith),
        three 1 (6 * rows_of s + 18 + 1) (omega arith) (omega arith),
      ) (pair-stored (6 * rows_of s + 18 + 6) (6 * rows_of s + 18 + 7) _ _ (omega arith) (omega arith))

  -- and nothing else, in a buffer of that size
  pub resummed-whole : length words ≡ 6 * rows_of s + 26 → resummed s words ≡ with_sums s rows
  resummed-whole size =
      resummed-exact ∙ ap (λ (r : List ℕ). with_sums s rows ++ r) (drop_of_length-le words {i = 6 * rows_of s + 26} (omega arith)) ∙
      append-nil (with_sums s rows)
