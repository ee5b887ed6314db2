-- What is promised of the words of a report. Definitions only.
use Rattle.std.specs.Prelude.{Bool, List, ◌≡◌, ℕ, ◌+◌, ◌*◌, ◌<◌}
use Rattle.numbers.specs.Lists.{at, sum}
use Rattle.exact.specs.Masses.{diurnal, soak, running}
use Rattle.sheet.specs.Bytes.{rows_of, cells_of, season_list, row_at}
use Rattle.masses.specs.Bands.{MassBand}
use Rattle.report_words.specs.Categories.{car, light_duty, two_wheeler, any_class, counted}

-- Of the words that stand in a buffer. Document 01 leaves a low or high open within these bounds.
module _ (s words : List ℕ) where
  -- of row i: "per row diurnal, soak, running, each low then high"; "A row without vehicles has six zeros."
  pub record RowPromise (i : ℕ) : Type 0 where
    pub diurnal-band : MassBand (cells_of s) (season_list s) (row_at s i) diurnal (at words (6 * i)) (at words (6 * i + 1))
    pub soak-band : MassBand (cells_of s) (season_list s) (row_at s i) soak (at words (6 * i + 2)) (at words (6 * i + 3))
    pub running-band : MassBand (cells_of s) (season_list s) (row_at s i) running (at words (6 * i + 4)) (at words (6 * i + 5))
    pub no-vehicles : (row_at s i).vehicles ≡ 0 → (j : ℕ) → j < 6 → at words (6 * i + j) ≡ 0

  -- word j of the rows of a category, summed
  abbrev pub rows_sum : (ℕ → Bool) → ℕ → ℕ
  rows_sum category j = sum (λ (i : ℕ). counted (category (row_at s i).class) (at words (6 * i + j))) (rows_of s)

  -- "six words each for cars (1 to 3), light-duty (4), two-wheelers (5 to 9); six for all rows": word j of the six
  -- that follow the rows' words and c categories
  abbrev pub category_word : ℕ → ℕ → ℕ
  category_word c j = at words (6 * (rows_of s + c) + j)

  -- "A subtotal's low is the sum of its rows' lows, its high that of their highs, 0 without rows."
  pub record SumsPromise : Type 0 where
    pub cars : (j : ℕ) → j < 6 → category_word 0 j ≡ rows_sum car j
    pub light : (j : ℕ) → j < 6 → category_word 1 j ≡ rows_sum light_duty j
    pub two : (j : ℕ) → j < 6 → category_word 2 j ≡ rows_sum two_wheeler j
    pub all : (j : ℕ) → j < 6 → category_word 3 j ≡ rows_sum any_class j
    -- no class is left out, and none counts twice
    pub add-up : (j : ℕ) → j < 6 → category_word 0 j + category_word 1 j + category_word 2 j ≡ category_word 3 j
    -- "low and high of the grand total, each the sum of three"
    pub grand : (j : ℕ) → j < 2 → category_word 4 j ≡ category_word 3 j + category_word 3 (j + 2) + category_word 3 (j + 4)

  pub record ReportPromise : Type 0 where
    pub each_row : (i : ℕ) → i < rows_of s → RowPromise i
    pub sums : SumsPromise
