-- The figures that are added up season by season are those of the year, they fit 64 bits, and in milligrams they are the report's words.
-- Assumes nothing.
use mathlib.Core.List.{List}
use mathlib.Core.Path.{◌≡◌, refl, sym, ap, ◌∙◌}
use Prim.Native.Nat.{ℕ, suc, zero, ◌+◌, ◌*◌, ◌-◌, ◌/◌, ◌%◌, ◌^◌, ◌≤◌, ◌<◌}
use native.Mathlib.Nat.{mul-le-mul_left}
use native.Mathlib.Numerals.{add-one}
use native.Mathlib.Omega.{arith}
use lib.ListN.{get_or}
use Rattle.numbers.specs.Lists.{sum}
use Rattle.exact.specs.declared.Row.{Row}
use Rattle.exact.specs.Factors.{Factor}
use Rattle.exact.specs.Masses.{Mechanism, diurnal, soak, running}
use Rattle.factors.specs.Units.{factor_units, low_micrograms, high_micrograms}
use Rattle.factors.proofs.FactorBound.{low-below-high}
use Rattle.sheet.specs.Limits.{days_limit}
use Rattle.sheet.specs.Bytes.{seasons_of, rows_of, cells_of, season_at, seasons_from, season_list, row_at}
use Rattle.sheet.specs.RunningSums.{days_before}
use Rattle.sheet.proofs.Accepted.{Bytes, Accepted}
use Rattle.masses.specs.Figures.{µg, day_figure, year_figure, low_figure, high_figure, row_figures}
use Rattle.report_words.specs.Report.{words_of}
use Rattle.masses.specs.Day.{day_figures}
use Rattle.report_words.specs.Years.{season_figure, year_word, report_word}
use Rattle.masses.proofs.MassSizes.{factor_most, day_most, year_most, day-most}
use Rattle.sheet_factors.proofs.AcceptedRange.{row-shares, sized}
use Rattle.report_words.proofs.ReportPlaces.{row-word-at}

-- A year's figure is the sum over its seasons.
module _ (micrograms : ℕ → ℕ) (s : List ℕ) (row : Row) (mechanism : Mechanism) where
  abbrev of-season : ℕ → ℕ
  of-season j = (season_at s j).days * day_figure micrograms (cells_of s) (season_at s j) row mechanism

  year-from : (j n k : ℕ) → j + n ≡ k → sum of-season j + year_figure micrograms (cells_of s) (seasons_from s j n) row mechanism ≡ sum of-season k
  unfolding seasons_from year_figure sum
  year-from j zero k e = let here : j ≡ k = omega arith in rw here (omega arith)
  year-from j (suc n) k e = omega (arith, year-from (suc j) n k (omega arith))

  year-sum : year_figure micrograms (cells_of s) (season_list s) row mechanism ≡ sum of-season (seasons_of s)
  unfolding season_list sum
  year-sum = omega (arith, year-from 0 (seasons_of s) (seasons_of s) (omega arith))

-- figure m of row i over all seasons, for all vehicles and in milligrams: a low cut down, a high cut up
pub word-from-year : (s : List ℕ) (i m : ℕ) → m < 6
    → (sum (season_figure s i m) (seasons_of s) * (row_at s i).vehicles + m % 2 * (10 ^ 9 - 1)) / 10 ^ 9 ≡ get_or (words_of s i) m 0
unfolding words_of row_figures low_figure high_figure season_figure day_figures
word-from-year s i zero h = rw (year-sum low_micrograms s (row_at s i) diurnal) (omega arith)
word-from-year s i (suc zero) h = rw (year-sum high_micrograms s (row_at s i) diurnal) (omega arith)
word-from-year s i (suc (suc zero)) h = rw (year-sum low_micrograms s (row_at s i) soak) (omega arith)
word-from-year s i (suc (suc (suc zero))) h = rw (year-sum high_micrograms s (row_at s i) soak) (omega arith)
word-from-year s i (suc (suc (suc (suc zero)))) h = rw (year-sum low_micrograms s (row_at s i) running) (omega arith)
word-from-year s i (suc (suc (suc (suc (suc zero))))) h = rw (year-sum high_micrograms s (row_at s i) running) (omega arith)
word-from-year s i (suc (suc (suc (suc (suc (suc m)))))) h = absurd (omega arith)

-- word k of the rows
pub report-from-year : (s : List ℕ) (k : ℕ) → k < 6 * rows_of s
    → (year_word s (seasons_of s) k * (row_at s (k / 6)).vehicles + k % 2 * (10 ^ 9 - 1)) / 10 ^ 9 ≡ report_word s k
unfolding year_word
report-from-year s k h =
    let place : 6 * (k / 6) + k % 6 ≡ k = omega arith in
    let parity : k % 2 ≡ k % 6 % 2 = omega arith in
    rw parity (word-from-year s (k / 6) (k % 6) (omega arith)) ∙
    sym (row-word-at s (k / 6) (k % 6) (omega arith) (omega arith)) ∙ ap (report_word s) place

-- no season, and one more
pub year-none : (s : List ℕ) (k : ℕ) → year_word s 0 k ≡ 0
unfolding year_word sum
year-none s k = refl

pub year-more : (s : List ℕ) (j k : ℕ) → year_word s j k + season_figure s (k / 6) (k % 6) j ≡ year_word s (j + 1) k
unfolding year_word sum
year-more s j k = rw add-one

-- a figure of a day
figures-most : (s : List ℕ) (i j m : ℕ) → Bytes s → Accepted s → i < rows_of s → j < seasons_of s
    → get_or (day_figures (cells_of s) (season_at s j) (row_at s i)) m 0 ≤ day_most
unfolding day_figures µg
figures-most s i j m bytes a row season = go m
  where
    high : (k : Factor) → high_micrograms (factor_units (season_at s j) (row_at s i) (cells_of s) k) ≤ factor_most k
    high = (sized bytes a row season).most

    low : (k : Factor) → low_micrograms (factor_units (season_at s j) (row_at s i) (cells_of s) k) ≤ factor_most k
    low k = omega (arith, low-below-high (factor_units (season_at s j) (row_at s i) (cells_of s) k), high k)

    day : (micrograms : ℕ → ℕ)
        → ((k : Factor) → micrograms (factor_units (season_at s j) (row_at s i) (cells_of s) k) ≤ factor_most k)
        → (mechanism : Mechanism)
        → day_figure micrograms (cells_of s) (season_at s j) (row_at s i) mechanism ≤ day_most
    day micrograms h = day-most (row-shares (a.row i row)) (a.row i row).trips-most micrograms (cells_of s) (season_at s j) h

    go : (m : ℕ) → get_or (day_figures (cells_of s) (season_at s j) (row_at s i)) m 0 ≤ day_most
    go zero = day low_micrograms low diurnal
    go (suc zero) = day high_micrograms high diurnal
    go (suc (suc zero)) = day low_micrograms low soak
    go (suc (suc (suc zero))) = day high_micrograms high soak
    go (suc (suc (suc (suc zero)))) = day low_micrograms low running
    go (suc (suc (suc (suc (suc zero))))) = day high_micrograms high running
    go (suc (suc (suc (suc (suc (suc m)))))) = omega arith

module _ {s : List ℕ} (bytes : Bytes s) (a : Accepted s) where
  -- the first n seasons
  seasons-most : (i m n : ℕ) → i < rows_of s → n ≤ seasons_of s → sum (season_figure s i m) n ≤ day_most * days_before s n
  unfolding sum season_figure days_before
  seasons-most i m zero row h = omega arith
  seasons-most i m (suc n) row h =
      omega (arith, seasons-most i m n row (omega arith), mul-le-mul_left (season_at s n).days (figures-most s i n m bytes a row h))

  -- the days of the first n seasons
  days-most : (n : ℕ) → n ≤ seasons_of s → days_before s n ≤ days_limit
  unfolding days_before
  days-most zero h = omega arith
  days-most (suc n) h = (a.season n h).days-together

  -- figure m of row i over the first n seasons,
  pub row-year-most : (i m n : ℕ) → i < rows_of s → n ≤ seasons_of s → sum (season_figure s i m) n ≤ year_most
  row-year-most i m n row h = omega (arith, seasons-most i m n row h, days-most n h)

  -- and so word k of the rows
  pub year-word-most : (n k : ℕ) → n ≤ seasons_of s → k < 6 * rows_of s → year_word s n k ≤ year_most
  unfolding year_word
  year-word-most n k h l = row-year-most (k / 6) (k % 6) n (omega arith) h
