-- What the call for the report of each season answers and what it leaves in the buffer. Definitions only.
use Rattle.std.specs.Prelude.{List, [], ◌∷◌, ◌++◌, ◌≡◌, ℕ, ◌+◌, ◌*◌, ◌/◌, ◌%◌, ◌≤◌, ◌<◌, length, drop}
use Rattle.numbers.specs.Lists.{tab, at}
use Rattle.blocks.specs.Blocks.{blocks}
use Rattle.exact.specs.declared.Season.{Season}
use Rattle.exact.specs.Masses.{diurnal, soak, running}
use Rattle.refusals.specs.declared.Rule.TheVariants as rule
use Rattle.refusals.specs.Check.{Check, number_of, place_of}
use Rattle.sheet.specs.Bytes.{seasons_of, rows_of, cells_of, season_at, row_at}
use Rattle.sheet.specs.Demands.{Demands, demand, ◌next◌, Says, demands}
use Rattle.masses.specs.Figures.{row_figures}
use Rattle.masses.specs.Bands.{MassBand}
use Rattle.report_words.specs.Categories.{report_length, category}
use Rattle.report_words.specs.Promise.{SumsPromise}
use Rattle.report_sums.specs.Sums.{buffer_sum}
use Rattle.inventory.specs.ReportAnswers.{room_check}
use Rattle.inventory.specs.ReportCall.{written}

-- season j alone
abbrev pub alone : List ℕ → ℕ → List Season
alone s j = season_at s j ∷ []

-- word k of the rows in season j: six for each row, as in the report but of that season alone
unfoldable pub season_word : List ℕ → ℕ → ℕ → ℕ
season_word s j k = at (row_figures (cells_of s) (alone s j) (row_at s (k / 6))) (k % 6)

-- "six words each for cars (1 to 3), light-duty (4), two-wheelers (5 to 9); six for all rows": the exact sums over the rows' words
unfoldable pub sums_of : List ℕ → List ℕ → List ℕ
sums_of s rows = tab (λ (k : ℕ). buffer_sum s rows (category (k / 6)) (rows_of s) (k % 6)) 24

-- "low and high of the grand total, each the sum of three"
abbrev pub total_of : List ℕ → ℕ → ℕ
total_of sums j = at sums (18 + j) + at sums (20 + j) + at sums (22 + j)

-- the words of the rows and all sums of them, in the order of a report
unfoldable pub with_sums : List ℕ → List ℕ → List ℕ
with_sums s rows = rows ++ sums_of s rows ++ (total_of (sums_of s rows) 0 ∷ total_of (sums_of s rows) 1 ∷ [])

-- the block of season j
unfoldable pub season_report : List ℕ → ℕ → List ℕ
season_report s j = with_sums s (tab (season_word s j) (6 * rows_of s))

-- and those of all seasons, one after another
unfoldable pub report_seasons : List ℕ → List ℕ
report_seasons s = blocks (season_report s) (seasons_of s)

-- which have so many words
abbrev pub seasons_length : List ℕ → ℕ
seasons_length s = report_length s * seasons_of s

-- number 22 where the buffer is short, after every check of the sheet
unfoldable pub seasons_check : List ℕ → ℕ → Check
seasons_check s room = room_check seasons_length s room

abbrev pub seasons_demands : List ℕ → ℕ → Demands
seasons_demands s room = demands s next demand rule.Room 0 (seasons_length s ≤ room)

-- What is promised of the words of season j: each row's exact mass of that season lies in its band, as wide as the days of that season allow,
-- and all sums are exact.
module _ (s : List ℕ) (j : ℕ) (words : List ℕ) where
  pub record SeasonRowPromise (i : ℕ) : Type 0 where
    pub diurnal-band : MassBand (cells_of s) (alone s j) (row_at s i) diurnal (at words (6 * i)) (at words (6 * i + 1))
    pub soak-band : MassBand (cells_of s) (alone s j) (row_at s i) soak (at words (6 * i + 2)) (at words (6 * i + 3))
    pub running-band : MassBand (cells_of s) (alone s j) (row_at s i) running (at words (6 * i + 4)) (at words (6 * i + 5))
    pub no-vehicles : (row_at s i).vehicles ≡ 0 → (m : ℕ) → m < 6 → at words (6 * i + m) ≡ 0

  pub record SeasonPromise : Type 0 where
    pub each_row : (i : ℕ) → i < rows_of s → SeasonRowPromise i
    pub sums : SumsPromise s words

-- What holds after the call, with the words that stood in the buffer before it and those that stand there now. The words of season j start
-- at j·(6R + 26).
pub record SeasonsCall (s old words : List ℕ) (r : Check) : Type 0 where
  pub answer-is : r ≡ seasons_check s (length old)
  pub words_are : words ≡ written r (report_seasons s) old
  pub says : Says (seasons_demands s (length old)) (number_of r) (place_of r)
  pub promise : number_of r ≡ 0 → (j : ℕ) → j < seasons_of s → SeasonPromise s j (drop (report_length s * j) words)
