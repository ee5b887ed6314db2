-- How many words the report has, where each stands, and what the buffer keeps.
-- Assumes nothing.
use mathlib.Core.Bool.{Bool, true}
use mathlib.Core.List.{List, [], ◌∷◌, ◌++◌, append_assoc}
use mathlib.Core.Logic.{⊎_elim}
use mathlib.Core.Path.{◌≡◌, refl, ◌∙◌}
use Prim.Native.Nat.{ℕ, suc, zero, ◌+◌, ◌*◌, ◌≤◌, ◌<◌}
use native.Mathlib.Nat.{eq-or-lt_of_le}
use native.Mathlib.Omega.{arith}
use lib.ListN.{length, get_or, length-append, get_or-append}
use Rattle.numbers.proofs.Lists.{tab-length, get_d-tab, past}
use Rattle.sheet.specs.Bytes.{rows_of}
use Rattle.masses.specs.Figures.{row_figures}
use Rattle.report_words.specs.Report.{words_of, row_words}
use Rattle.report_words.specs.Categories.{report_length, car, light_duty, two_wheeler, any_class}
use Rattle.report_words.specs.Report.{subtotal, subtotals, grand_total, report}
use Rattle.report_words.specs.Categories.{category}

-- six words for each row
row_words-length : (s : List ℕ) (n : ℕ) → length (row_words s n) ≡ 6 * n
unfolding row_words words_of row_figures
row_words-length s zero = refl
row_words-length s (suc n) = length-append (row_words s n) _ ∙ omega (arith, row_words-length s n)

-- and for each category
subtotals-length : (s : List ℕ) (category : ℕ → Bool) → length (subtotals s category) ≡ 6
unfolding subtotals
subtotals-length s category = tab-length (subtotal s category (rows_of s)) 6

-- "6R + 26 u64 words"
pub report-length : (s : List ℕ) → length (report s) ≡ report_length s
unfolding report report_length
report-length s = simp (length-append, row_words-length, subtotals-length) (omega arith)

-- word j of row i stands at 6·i + j of the rows' words
rows_at : (s : List ℕ) (n i j : ℕ) → i < n → j < 6 → get_or (row_words s n) (6 * i + j) 0 ≡ get_or (words_of s i) j 0
unfolding row_words
rows_at s zero i j h l = absurd (omega arith)
rows_at s (suc n) i j h l =
    let within : i ≤ n = omega arith in
    ⊎_elim (λ e. rw e (past (row_words s n) (words_of s n) (6 * n) j (6 * n + j) (row_words-length s n) refl))
    (λ g.
    let inside : 6 * i + j < length (row_words s n) = omega (arith, row_words-length s n) in
    get_or-append (row_words s n) (words_of s n) 0 (6 * i + j) inside ∙ rows_at s n i j g l)
    (eq-or-lt_of_le within)

-- "per row diurnal, soak, running, each low then high": six words from 6·i on
pub row-word-at : (s : List ℕ) (i j : ℕ) → i < rows_of s → j < 6 → get_or (report s) (6 * i + j) 0 ≡ get_or (words_of s i) j 0
unfolding report
row-word-at s i j h l =
    let inside : 6 * i + j < length (row_words s (rows_of s)) = omega (arith, row_words-length s (rows_of s)) in
    simp append_assoc (get_or-append (row_words s (rows_of s)) _ 0 (6 * i + j) inside ∙ rows_at s (rows_of s) i j h l)

-- past the first three, every class belongs
pub category-rest : (c class : ℕ) → ¬ (c ≡ 0) → ¬ (c ≡ 1) → ¬ (c ≡ 2) → category c class ≡ true
unfolding category any_class
category-rest zero class a b c = absurd (a refl)
category-rest (suc zero) class a b c = absurd (b refl)
category-rest (suc (suc zero)) class a b c = absurd (c refl)
category-rest (suc (suc (suc n))) class a b c = refl

module _ (s : List ℕ) where
  -- word j of a category, before what follows
  first : (f : ℕ → Bool) (ys : List ℕ) (j : ℕ) → j < 6 → get_or (subtotals s f ++ ys) j 0 ≡ subtotal s f (rows_of s) j
  unfolding subtotals
  first f ys j l =
      get_or-append (subtotals s f) ys 0 j (rw (subtotals-length s f) l) ∙ get_d-tab (subtotal s f (rows_of s)) 6 j l

  -- past one category
  next : (f : ℕ → Bool) (ys : List ℕ) (k : ℕ) → get_or (subtotals s f ++ ys) (6 + k) 0 ≡ get_or ys k 0
  next f ys k = past (subtotals s f) ys 6 k (6 + k) (subtotals-length s f) refl

  -- past the rows
  after-rows : (ys : List ℕ) (k m : ℕ) → m ≡ 6 * rows_of s + k → get_or (row_words s (rows_of s) ++ ys) m 0 ≡ get_or ys k 0
  after-rows ys k m e = past (row_words s (rows_of s)) ys (6 * rows_of s) k m (row_words-length s (rows_of s)) e

  -- "six words each for cars (1 to 3), light-duty (4), two-wheelers (5 to 9); six for all rows"
  pub category-word-at : (c j : ℕ) → c < 4 → j < 6 → get_or (report s) (6 * (rows_of s + c) + j) 0 ≡ subtotal s (category c) (rows_of s) j
  unfolding report category
  category-word-at zero j h l = simp append_assoc (after-rows _ j _ (omega arith) ∙ first car _ j l)
  category-word-at (suc zero) j h l = simp append_assoc (after-rows _ (6 + j) _ (omega arith) ∙ next car _ j ∙ first light_duty _ j l)
  category-word-at (suc (suc zero)) j h l =
      simp append_assoc (after-rows _ (6 + (6 + j)) _ (omega arith) ∙ next car _ _ ∙ next light_duty _ j ∙ first two_wheeler _ j l)
  category-word-at (suc (suc (suc zero))) j h l =
      simp append_assoc
      (after-rows _ (6 + (6 + (6 + j))) _ (omega arith) ∙ next car _ _ ∙ next light_duty _ _ ∙ next two_wheeler _ j ∙ first any_class _ j l)
  category-word-at (suc (suc (suc (suc c)))) j h l = absurd (omega arith)

  -- the two words of the grand total, last
  totals : (j : ℕ) → j < 2 → get_or (grand_total s 0 ∷ grand_total s 1 ∷ []) j 0 ≡ grand_total s j
  totals zero l = refl
  totals (suc zero) l = refl
  totals (suc (suc j)) l = absurd (omega arith)

  -- "low and high of the grand total"
  pub total-at : (j : ℕ) → j < 2 → get_or (report s) (6 * rows_of s + 24 + j) 0 ≡ grand_total s j
  unfolding report
  total-at j l =
      simp append_assoc
      (after-rows _ (6 + (6 + (6 + (6 + j)))) _ (omega arith) ∙ next car _ _ ∙ next light_duty _ _ ∙
      next two_wheeler _ _ ∙ next any_class _ j ∙ totals j l)
