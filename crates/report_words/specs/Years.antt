-- Need not be believed: the figures on the way to the words of a report, as the program adds them up season by season.
use Rattle.std.specs.Prelude.{List, ◌++◌, ◌≡◌, ℕ, ◌+◌, ◌*◌, ◌-◌, ◌/◌, ◌%◌, ◌^◌, ◌≤◌, ◌<◌, length, get_or, take, drop}
use Rattle.numbers.specs.Lists.{tab, sum}
use Rattle.exact.specs.declared.Season.{Season}
use Rattle.masses.specs.Day.{day_figures}
use Rattle.sheet.specs.Bytes.{rows_of, cells_of, season_at, row_at}
use Rattle.report_words.specs.Report.{report}

-- figure m of row i in season j, over its days
unfoldable pub season_figure : List ℕ → ℕ → ℕ → ℕ → ℕ
season_figure s i m j = (season_at s j).days * get_or (day_figures (cells_of s) (season_at s j) (row_at s i)) m 0

-- word k of the rows' figures over the first n seasons: six words for each row
unfoldable pub year_word : List ℕ → ℕ → ℕ → ℕ
year_word s n k = sum (season_figure s (k / 6) (k % 6)) n

-- word k with what its row loses on the days of a season
abbrev pub season_added : List ℕ → Season → List ℕ → ℕ → ℕ
season_added s season words k =
    get_or words k 0 + season.days * get_or (day_figures (cells_of s) season (row_at s (k / 6))) (k % 6) 0

-- all words of the rows fit 64 bits then
pub record SeasonFits (s : List ℕ) (season : Season) (words : List ℕ) : Type 0 where
  pub word_fits : (k : ℕ) → k < 6 * rows_of s → season_added s season words k < 2 ^ 64

-- word k of the rows, a figure of one vehicle, for all vehicles of its row in milligrams: a low rounded down, a high rounded up
abbrev pub in_milligrams : List ℕ → List ℕ → ℕ → ℕ
in_milligrams s words k = (get_or words k 0 * (row_at s (k / 6)).vehicles + k % 2 * (10 ^ 9 - 1)) / 10 ^ 9

-- word m of a row's six, a figure of one vehicle, for so many vehicles in milligrams, rounded likewise
abbrev pub for_vehicles : List ℕ → ℕ → ℕ → ℕ
for_vehicles six vehicles m = (get_or six m 0 * vehicles + m % 2 * (10 ^ 9 - 1)) / 10 ^ 9

-- the first n words replaced by those of f
abbrev pub filled : (ℕ → ℕ) → ℕ → List ℕ → List ℕ
filled f n old = tab f n ++ drop n old

-- word k of the report
abbrev pub report_word : List ℕ → ℕ → ℕ
report_word s k = get_or (report s) k 0

-- word m of six, with a figure of a day for so many days
abbrev pub days_added : List ℕ → ℕ → List ℕ → ℕ → ℕ
days_added words days figures m = get_or words m 0 + days * get_or figures m 0

-- all six fit 64 bits
pub record SumsFit (words : List ℕ) (days : ℕ) (figures : List ℕ) : Type 0 where
  pub sum_fits : (m : ℕ) → m < 6 → days_added words days figures m < 2 ^ 64

-- the buffer has room for the words of the rows, and the first of its words are those of f
pub record RowsHold (f : ℕ → ℕ) (s words : List ℕ) : Type 0 where
  pub room : 6 * rows_of s ≤ length words
  pub words_are : take (6 * rows_of s) words ≡ tab f (6 * rows_of s)
