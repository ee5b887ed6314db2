-- A buffer that holds the report of an accepted sheet holds what document 01 promises of each row's words and of the sums over them.
-- Assumes nothing.
use mathlib.Core.Bool.{Bool}
use mathlib.Core.List.{List, [], ◌∷◌}
use mathlib.Core.Path.{◌≡◌, refl, sym, ap, ap₂, ◌∙◌}
use Prim.Native.Nat.{ℕ, suc, zero, ◌+◌, ◌*◌, ◌≤◌, ◌<◌}
use native.Mathlib.Omega.{arith}
use Rattle.numbers.specs.Lists.{at, sum}
use Rattle.sheet.specs.Bytes.{rows_of, cells_of, season_list, row_at}
use Rattle.sheet.proofs.Accepted.{Bytes, Accepted}
use Rattle.masses.specs.AnyCounts.{Every, InRange}
use Rattle.masses.proofs.MassWidth.{no-vehicles}
use Rattle.masses.proofs.AnyCounts.{any-masses}
use Rattle.report_words.specs.Report.{words_of, subtotal, grand_total, report}
use Rattle.report_words.specs.Categories.{car, light_duty, two_wheeler, any_class, counted, category}
use Rattle.report_words.specs.Promise.{RowPromise, rows_sum, category_word, SumsPromise, ReportPromise}
use Rattle.report_words.proofs.ReportPlaces.{row-word-at, category-word-at, total-at}
use Rattle.sheet_factors.proofs.AcceptedRange.{cells-least, row-shares, in-range, every-season}

-- What a report and the block of a season have in common.

-- each of six zeros is 0
pub zeros : {xs : List ℕ} → xs ≡ 0 ∷ 0 ∷ 0 ∷ 0 ∷ 0 ∷ 0 ∷ [] → (j : ℕ) → at xs j ≡ 0
zeros e zero = rw e
zeros e (suc zero) = rw e
zeros e (suc (suc zero)) = rw e
zeros e (suc (suc (suc zero))) = rw e
zeros e (suc (suc (suc (suc zero)))) = rw e
zeros e (suc (suc (suc (suc (suc zero))))) = rw e
zeros e (suc (suc (suc (suc (suc (suc j)))))) = rw e

module _ (s words : List ℕ) where
  -- a total of each row's word where the row belongs is the sum of the buffer's, where these words stand there
  pub summed : (f : ℕ → Bool) (j : ℕ) (total word : ℕ → ℕ) → total 0 ≡ 0
      → ((i : ℕ) → total (suc i) ≡ total i + counted (f (row_at s i).class) (word i))
      → (n : ℕ) → ((i : ℕ) → i < n → at words (6 * i + j) ≡ word i)
      → total n ≡ sum (λ (i : ℕ). counted (f (row_at s i).class) (at words (6 * i + j))) n
  unfolding sum
  summed f j total word none more zero h = none
  summed f j total word none more (suc n) h =
      more n ∙
      ap₂ ◌+◌ (summed f j total word none more n (λ i l. h i (omega arith))) (ap (counted (f (row_at s n).class)) (sym (h n (omega arith))))

  -- the two last words are the sums of three words for all rows, where these are `all`
  pub grand : (all : ℕ → ℕ) → ((j : ℕ) → j < 6 → category_word s words 3 j ≡ all j)
      → ((j : ℕ) → j < 2 → category_word s words 4 j ≡ all j + all (2 + j) + all (4 + j)) → (j : ℕ) → j < 2
      → category_word s words 4 j ≡ category_word s words 3 j + category_word s words 3 (j + 2) + category_word s words 3 (j + 4)
  grand all whole total j l =
      let second : 2 + j ≡ j + 2 = omega arith in
      let third : 4 + j ≡ j + 4 = omega arith in
      total j l ∙ rw (whole j (omega arith), whole (j + 2) (omega arith), whole (j + 4) (omega arith), second, third) refl

-- the first words of a buffer are the report's
pub record Holds (s words : List ℕ) : Type 0 where
  pub word : (k : ℕ) → k < 6 * rows_of s + 26 → at words k ≡ at (report s) k

module _ {s words : List ℕ} (h : Holds s words) where
  -- word j of row i
  row_word : (i j : ℕ) → i < rows_of s → j < 6 → at words (6 * i + j) ≡ at (words_of s i) j
  row_word i j row l = h.word (6 * i + j) (omega arith) ∙ row-word-at s i j row l

  -- a word of a category
  category-sum : (c j : ℕ) → c < 4 → j < 6 → category_word s words c j ≡ rows_sum s words (category c) j
  unfolding subtotal
  category-sum c j l m =
      h.word (6 * (rows_of s + c) + j) (omega arith) ∙ category-word-at s c j l m ∙
      summed s words (category c) j (λ (n : ℕ). subtotal s (category c) n j) (λ (i : ℕ). at (words_of s i) j) refl (λ _. refl) (rows_of s)
      (λ i row. row_word i j row m)

-- three parts that make up a whole in every row do so in all
sums-add : (f g k m : ℕ → ℕ) (n : ℕ) → ((i : ℕ) → i < n → f i + g i + k i ≡ m i) → sum f n + sum g n + sum k n ≡ sum m n
unfolding sum
sums-add f g k m zero h = refl
sums-add f g k m (suc n) h = omega (arith, sums-add f g k m n (λ i l. h i (omega arith)), h n (omega arith))

-- a class from 1 to 9 belongs to one of the three
one_of_three : (class x : ℕ) → 1 ≤ class → class ≤ 9 → counted (car class) x + counted (light_duty class) x + counted
    (two_wheeler class) x ≡ counted (any_class class) x
unfolding counted car light_duty two_wheeler any_class
one_of_three zero x l m = absurd (omega arith)
one_of_three (suc zero) x l m = omega arith
one_of_three (suc (suc zero)) x l m = omega arith
one_of_three (suc (suc (suc zero))) x l m = omega arith
one_of_three (suc (suc (suc (suc zero)))) x l m = omega arith
one_of_three (suc (suc (suc (suc (suc zero))))) x l m = omega arith
one_of_three (suc (suc (suc (suc (suc (suc zero)))))) x l m = omega arith
one_of_three (suc (suc (suc (suc (suc (suc (suc zero))))))) x l m = omega arith
one_of_three (suc (suc (suc (suc (suc (suc (suc (suc zero)))))))) x l m = omega arith
one_of_three (suc (suc (suc (suc (suc (suc (suc (suc (suc zero))))))))) x l m = omega arith
one_of_three (suc (suc (suc (suc (suc (suc (suc (suc (suc (suc class)))))))))) x l m = absurd (omega arith)

-- Where each category's words are the sums over its rows, and the totals those of three, all is said of the sums that is promised.
pub sums-hold : {s words : List ℕ} → Accepted s
    → ((c j : ℕ) → c < 4 → j < 6 → category_word s words c j ≡ rows_sum s words (category c) j)
    → ((j : ℕ) → j < 2 → category_word s words 4 j ≡ category_word s words 3 j + category_word s words 3 (j + 2) + category_word s words 3 (j + 4))
    → SumsPromise s words
unfolding category
sums-hold {s} {words} a sums grand = record {
  cars = λ j l. sums 0 j (omega arith) l;
  light = λ j l. sums 1 j (omega arith) l;
  two = λ j l. sums 2 j (omega arith) l;
  all = λ j l. sums 3 j (omega arith) l;
  add-up = λ j l.
      rw (sums 0 j (omega arith) l, sums 1 j (omega arith) l, sums 2 j (omega arith) l, sums 3 j (omega arith) l)
      (sums-add _ _ _ _ (rows_of s)
      (λ i row. one_of_three (row_at s i).class (at words (6 * i + j)) (a.row i row).class-least
      (a.row i row).class-most));
  grand = grand;
}

-- An accepted sheet, and a buffer that holds its report.
module _ {s words : List ℕ} (bytes : Bytes s) (a : Accepted s) (h : Holds s words) where
  -- row i
  row-promise : (i : ℕ) → i < rows_of s → RowPromise s words i
  unfolding words_of
  row-promise i row =
      let each : Every (InRange (row_at s i)) (season_list s) = every-season _ s (λ j l. in-range bytes a row l) in
      let bands = any-masses (cells_of s) (cells-least a) (season_list s) (row_at s i) (row-shares (a.row i row)) each in
      let first : at words (6 * i) ≡ at (words_of s i) 0 =
      ap (at words) {x = 6 * i} {y = 6 * i + 0} (omega arith) ∙ row_word h i 0 row (omega arith) in
      record {
        diurnal-band = rw (first, row_word h i 1 row (omega arith)) bands.diurnal-band;
        soak-band = rw (row_word h i 2 row (omega arith), row_word h i 3 row (omega arith)) bands.soak-band;
        running-band = rw (row_word h i 4 row (omega arith), row_word h i 5 row (omega arith)) bands.running-band;
        no-vehicles = λ none j l. row_word h i j row l ∙ zeros (no-vehicles (cells_of s) (season_list s) (row_at s i) none) j;
      }

  -- a word for all rows
  whole_word : (j : ℕ) → j < 6 → category_word s words 3 j ≡ subtotal s any_class (rows_of s) j
  unfolding category
  whole_word j l = h.word (6 * (rows_of s + 3) + j) (omega arith) ∙ category-word-at s 3 j (omega arith) l

  -- the grand total
  grand-word : (j : ℕ) → j < 2 → category_word s words 4 j ≡ grand_total s j
  grand-word j l =
      let place : 6 * (rows_of s + 4) + j ≡ 6 * rows_of s + 24 + j = omega arith in
      rw place (h.word (6 * rows_of s + 24 + j) (omega arith) ∙ total-at s j l)

  pub promise : ReportPromise s words
  unfolding grand_total
  promise = record {
    each_row = row-promise;
    sums = sums-hold a (category-sum h) (grand s words (subtotal s any_class (rows_of s)) whole_word grand-word);
  }
