-- One row's year and its six words, apart from the others, and the report around them.
-- Assumes nothing.
use Rattle.std.proofs.Common.{◌≡◌, ℕ, ◌+◌, ◌-◌, ◌*◌, ◌^◌, ◌<◌, ◌≤◌, List, [], ◌∷◌, ◌++◌, length, get_or, take, sym, refl, ap, ◌∙◌}
use Rattle.std.proofs.Common.{arith, length-take-le, get_or-take, ext_get_or}
use native.Mathlib.Decide.{dec_le}
use lib.Seq.{sets, length-sets}
use Rattle.numbers.specs.Lists.{tab, at}
use Rattle.numbers.proofs.Lists.{tab-length, get_d-tab, tab-ext, tab-at, sum-none, sum_more}
use Rattle.numbers.proofs.Stores.{sets-before, sets-in, sets-beyond, drop-sets}
use Rattle.sheet.specs.Bytes.{seasons_of, rows_of, cells_of, season_at, row_at}
use Rattle.sheet.proofs.Accepted.{Bytes, Accepted}
use Rattle.masses.specs.Day.{day_figures}
use Rattle.masses.specs.Figures.{row_figures}
use Rattle.masses.proofs.MassSizes.{year-fits}
use Rattle.report_words.specs.Report.{words_of}
use Rattle.report_words.specs.Years.{season_figure, days_added, SumsFit, for_vehicles, filled, report_word}
use Rattle.report_words.proofs.ReportPlaces.{row-word-at}
use Rattle.report_words.proofs.YearWords.{row-year-most, word-from-year}
use Rattle.report_sums.proofs.BufferSums.{resummed-is}
use Rattle.report_sums.specs.Renewed.{renewed}
use Rattle.report_sums.specs.RowYear.{row_year}

-- all words of the rows but those of row i are the report's
pub record RestHolds (s : List ℕ) (i : ℕ) (words : List ℕ) : Type 0 where
  pub before : (k : ℕ) → k < 6 * i → at words k ≡ report_word s k
  pub beyond : (k : ℕ) → 6 * i + 6 ≤ k → k < 6 * rows_of s → at words k ≡ report_word s k

-- no season
pub year-none : (s : List ℕ) (i : ℕ) → (0 ∷ 0 ∷ 0 ∷ 0 ∷ 0 ∷ 0 ∷ []) ≡ tab (row_year s i 0) 6
unfolding tab
year-none s i = tab-ext 6 (λ m l. sum-none (season_figure s i m))

-- One season more.
module _ (s : List ℕ) (i j : ℕ) {year : List ℕ} (e : year ≡ tab (row_year s i j) 6) where
  added : (m : ℕ) → m < 6 → days_added year (season_at s j).days (day_figures (cells_of s) (season_at s j) (row_at s i)) m ≡ row_year s i (j + 1) m
  unfolding season_figure
  added m h = sum_more (season_figure s i m) j (rw e (get_d-tab (row_year s i j) 6 m h)) refl

  pub season-fits : Bytes s → Accepted s → i < rows_of s → j < seasons_of s
      → SumsFit year (season_at s j).days (day_figures (cells_of s) (season_at s j) (row_at s i))
  season-fits bytes a row season =
      record { sum_fits = λ m h. rw (added m h) (omega (arith, row-year-most bytes a i m (j + 1) row (omega arith), year-fits)) }

  pub season-more : tab (days_added year (season_at s j).days (day_figures (cells_of s) (season_at s j) (row_at s i))) 6 ≡ tab
      (row_year s i (j + 1)) 6
  season-more = tab-ext 6 added

-- the figures of all seasons fit 64 bits
pub year-bits : {s : List ℕ} → Bytes s → Accepted s → (i m : ℕ) → i < rows_of s → row_year s i (seasons_of s) m < 2 ^ 64
year-bits {s} bytes a i m there = omega (arith, row-year-most bytes a i m (seasons_of s) there (omega arith), year-fits)

-- six words, which are those of the report
pub words-length : (s : List ℕ) (i : ℕ) → length (words_of s i) ≡ 6
unfolding words_of row_figures
words-length s i = refl

words-tab : (s : List ℕ) (i : ℕ) → tab (λ (m : ℕ). get_or (words_of s i) m 0) 6 ≡ words_of s i
words-tab s i = tab-at (words_of s i) (words-length s i)

-- what six figures of the year are in milligrams
pub words-made : (s : List ℕ) (i : ℕ) {year six : List ℕ} {vehicles : ℕ} → year ≡ tab (row_year s i (seasons_of s)) 6
    → vehicles ≡ (row_at s i).vehicles → six ≡ tab (for_vehicles year vehicles) 6 → six ≡ words_of s i
words-made s i {year} {six} e v made =
    rw (made, v)
    (tab-ext 6 (λ m h. rw (e, get_d-tab (row_year s i (seasons_of s)) 6 m h) (word-from-year s i m h)) ∙ words-tab s i)

-- with the words of row i stored, those of all rows are the report's
rows-hold : (s words : List ℕ) (i : ℕ) → i < rows_of s → 6 * rows_of s ≤ length words → RestHolds s i words
    → take (6 * rows_of s) (sets words (6 * i) (words_of s i)) ≡ tab (report_word s) (6 * rows_of s)
rows-hold s words i there room rest =
    let vs : List ℕ = words_of s i in
    let all : List ℕ = sets words (6 * i) vs in
    let six = words-length s i in
    let size : length (take (6 * rows_of s) all) ≡ 6 * rows_of s = length-take-le (6 * rows_of s) all (omega (arith, length-sets words (6 * i) vs)) in
    ext_get_or 0 (take (6 * rows_of s) all) (tab (report_word s) (6 * rows_of s)) (size ∙ sym (tab-length (report_word s) (6 * rows_of s)))
    (λ k l.
    let inside : k < 6 * rows_of s = rw size at l in
    get_or-take (6 * rows_of s) all k 0 inside ∙
    elim (dec_le (6 * i) k) [
      | no a ↦ sets-before words (6 * i) vs k (omega arith) ∙ rest.before k (omega arith)
      | yes a ↦
          elim (dec_le (6 * i + 6) k) [
            | yes b ↦ sets-beyond words (6 * i) vs k (omega arith) ∙ rest.beyond k b inside
            | no b ↦
                let m : ℕ = k - 6 * i in
                let place : 6 * i + m ≡ k = omega arith in
                ap (λ (q : ℕ). get_or all q 0) (sym place) ∙ sets-in words (6 * i) vs m (omega arith) (omega arith) ∙
                sym (row-word-at s i m there (omega arith)) ∙ ap (report_word s) place
          ]
    ] ∙
    sym (get_d-tab (report_word s) (6 * rows_of s) k inside))

-- Made anew where all other rows' words are the report's, the buffer holds the report.
pub renewed-is : {s : List ℕ} → Bytes s → Accepted s → (words : List ℕ) (i : ℕ) → i < rows_of s
    → 6 * rows_of s + 26 ≤ length words → RestHolds s i words
    → renewed s i words ≡ filled (report_word s) (6 * rows_of s + 26) words
unfolding renewed
renewed-is {s} bytes a words i there room rest =
    let long = length-sets words (6 * i) (words_of s i) in
    resummed-is bytes a (sets words (6 * i) (words_of s i)) (rows-hold s words i there (omega arith) rest) (omega arith) ∙
    ap (λ (r : List ℕ). tab (report_word s) (6 * rows_of s + 26) ++ r)
    (drop-sets words (6 * i) (words_of s i) (6 * rows_of s + 26) (omega (arith, words-length s i)))
