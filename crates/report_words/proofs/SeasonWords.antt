-- What a season adds to the words of the rows, row by row, and what the buffer then holds.
-- Assumes nothing.
use mathlib.Core.List.{List, ◌++◌}
use mathlib.Core.Path.{◌≡◌, refl, sym, ◌∙◌, ap}
use Prim.Native.Nat.{ℕ, ◌+◌, ◌*◌, ◌/◌, ◌%◌, ◌<◌}
use native.Mathlib.Omega.{arith}
use lib.ListN.{get_or, take, drop}
use Rattle.numbers.specs.Lists.{tab}
use Rattle.numbers.proofs.Lists.{get_d-tab, tab-ext}
use Rattle.std.specs.Fork.{slice_chunk}
use Rattle.blocks.proofs.Parts.{part-at}
use Rattle.exact.specs.declared.Season.{Season}
use Rattle.sheet.specs.Bytes.{seasons_of, rows_of, cells_of, season_at, row_at}
use Rattle.sheet.proofs.Accepted.{Bytes, Accepted}
use Rattle.masses.specs.Day.{day_figures}
use Rattle.report_words.specs.Years.{season_figure, year_word, days_added, SumsFit, season_added}
use Rattle.report_words.specs.Years.{SeasonFits, in_milligrams, for_vehicles, filled, report_word}
use Rattle.masses.proofs.MassSizes.{year-fits}
use Rattle.report_words.proofs.Filled.{filled-front, filled-twice, first-at}
use Rattle.report_words.proofs.YearWords.{year-none, year-more, year-word-most, report-from-year}

-- Row i.
module _ (s : List ℕ) (season : Season) (old : List ℕ) (i : ℕ) where
  -- word m of its six, with what the row loses on the days of the season
  pub row-added : (m : ℕ) → m < 6
      → days_added (slice_chunk old 6 i) season.days (day_figures (cells_of s) season (row_at s i)) m ≡ season_added s season old (6 * i + m)
  row-added m h =
      let place : i * 6 + m ≡ 6 * i + m = omega arith in
      let row : (6 * i + m) / 6 ≡ i = omega arith in
      let word : (6 * i + m) % 6 ≡ m = omega arith in
      rw (row, word, ← place, part-at 6 old i m h) refl

  -- its six words fit
  pub row-sums-fit : i < rows_of s → SeasonFits s season old
      → SumsFit (slice_chunk old 6 i) season.days (day_figures (cells_of s) season (row_at s i))
  row-sums-fit there fits = record { sum_fits = λ m h. rw (row-added m h) (fits.word_fits (6 * i + m) (omega arith)) }

  -- which are those that six words of it have once its figures are added
  pub row-words : {days : ℕ} {part six figures : List ℕ} → part ≡ slice_chunk old 6 i → days ≡ season.days
      → figures ≡ day_figures (cells_of s) season (row_at s i) → six ≡ tab (days_added part days figures) 6
      → (m : ℕ) → m < 6 → get_or six m 0 ≡ season_added s season old (6 * i + m)
  row-words p d f e m h = rw (e, p, d, f) (get_d-tab _ 6 m h ∙ row-added m h)

-- the six words of row i in milligrams are those of the buffer in milligrams
pub row-in-milligrams : (s old : List ℕ) (i : ℕ) {part six : List ℕ} → part ≡ slice_chunk old 6 i
    → six ≡ tab (for_vehicles part (row_at s i).vehicles) 6 → (m : ℕ) → m < 6 → get_or six m 0 ≡ in_milligrams s old (6 * i + m)
row-in-milligrams s old i p e m h =
    let place : i * 6 + m ≡ 6 * i + m = omega arith in
    let row : (6 * i + m) / 6 ≡ i = omega arith in
    let parity : (6 * i + m) % 2 ≡ m % 2 = omega arith in
    rw (e, p) (get_d-tab _ 6 m h ∙ rw (row, parity, ← place, part-at 6 old i m h) refl)

-- Season j, where the seasons before it have been added.
module _ (s old words : List ℕ) (j : ℕ) (e : words ≡ filled (year_word s j) (6 * rows_of s) old) where
  -- word k
  season-added : (k : ℕ) → k < 6 * rows_of s → season_added s (season_at s j) words k ≡ year_word s (j + 1) k
  unfolding season_figure
  season-added k h = rw (first-at (year_word s j) words _ k (filled-front (year_word s j) old _ e) h) (year-more s j k)

  -- the words fit
  pub season-fits : Bytes s → Accepted s → j < seasons_of s → SeasonFits s (season_at s j) words
  season-fits bytes a there =
      record { word_fits = λ k h. rw (season-added k h) (omega (arith, year-word-most bytes a (j + 1) k (omega arith) h, year-fits)) }

  -- and are those of one season more
  pub season-stored : {after : List ℕ} → after ≡ filled (season_added s (season_at s j) words) (6 * rows_of s) words
      → after ≡ filled (year_word s (j + 1)) (6 * rows_of s) old
  season-stored d =
      filled-twice _ _ old (6 * rows_of s) (6 * rows_of s) (omega arith) e
      (d ∙ ap (λ (r : List ℕ). r ++ drop (6 * rows_of s) words) (tab-ext (6 * rows_of s) season-added))

-- no season in words that are 0
pub cleared : (s old : List ℕ) {zeros : List ℕ} → zeros ≡ filled (λ (k : ℕ). 0) (6 * rows_of s) old
    → take (6 * rows_of s) zeros ≡ tab (year_word s 0) (6 * rows_of s)
cleared s old e = filled-front (λ (k : ℕ). 0) old _ e ∙ tab-ext (6 * rows_of s) (λ k l. sym (year-none s k))

-- the figures of all seasons, in milligrams, are the report's words
pub year-in-milligrams : (s old : List ℕ) {words after : List ℕ} → words ≡ filled (year_word s (seasons_of s)) (6 * rows_of s) old
    → after ≡ filled (in_milligrams s words) (6 * rows_of s) words → after ≡ filled (report_word s) (6 * rows_of s) old
year-in-milligrams s old {words} e d =
    let year = year_word s (seasons_of s) in
    filled-twice _ _ old (6 * rows_of s) (6 * rows_of s) (omega arith) e
    (d ∙ ap (λ (r : List ℕ). r ++ drop (6 * rows_of s) words)
    (tab-ext (6 * rows_of s) (λ k h. rw (first-at year words _ k (filled-front year old _ e) h) (report-from-year s k h))))
