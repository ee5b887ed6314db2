-- Need not be believed: all words of the report of a sheet as the program computes them. What they are promised to be is in Promise.
use Rattle.std.specs.Prelude.{Bool, List, [], ◌∷◌, ◌++◌, ℕ, suc, zero, ◌+◌, get_or}
use Rattle.numbers.specs.Lists.{tab}
use Rattle.sheet.specs.Bytes.{rows_of, cells_of, season_list, row_at}
use Rattle.masses.specs.Figures.{row_figures}
use Rattle.report_words.specs.Categories.{car, light_duty, two_wheeler, any_class, counted}

-- the six words of row i
unfoldable pub words_of : List ℕ → ℕ → List ℕ
words_of s i = row_figures (cells_of s) (season_list s) (row_at s i)

-- the words of the first n rows
unfoldable pub row_words : List ℕ → ℕ → List ℕ
row_words s zero = []
row_words s (suc n) = row_words s n ++ words_of s n

-- "A subtotal's low is the sum of its rows' lows, its high that of their highs, 0 without rows": word j of the first n rows
unfoldable pub subtotal : List ℕ → (ℕ → Bool) → ℕ → ℕ → ℕ
subtotal s category zero j = 0
subtotal s category (suc n) j =
    subtotal s category n j + counted (category (row_at s n).class) (get_or (words_of s n) j 0)

unfoldable pub subtotals : List ℕ → (ℕ → Bool) → List ℕ
subtotals s category = tab (subtotal s category (rows_of s)) 6

-- "low and high of the grand total, each the sum of three"
unfoldable pub grand_total : List ℕ → ℕ → ℕ
grand_total s j =
    let all = subtotal s any_class (rows_of s) in
    all j + all (2 + j) + all (4 + j)

-- "per row diurnal, soak, running, each low then high; six words each for cars (1 to 3), light-duty (4), two-wheelers (5 to 9);
-- six for all rows; low and high of the grand total"
unfoldable pub report : List ℕ → List ℕ
report s =
    row_words s (rows_of s) ++ subtotals s car ++ subtotals s light_duty ++ subtotals s two_wheeler ++ subtotals s any_class ++
    (grand_total s 0 ∷ grand_total s 1 ∷ [])
