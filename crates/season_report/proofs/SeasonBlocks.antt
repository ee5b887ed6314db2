-- The block of a season: what one season adds to words that are 0, in milligrams, with the sums; all fit 64 bits.
use mathlib.Core.Bool.{Bool}
use mathlib.Core.List.{List}
use mathlib.Core.Path.{◌≡◌, refl, ◌∙◌, ap}
use Prim.Native.Nat.{ℕ, suc, zero, ◌+◌, ◌*◌, ◌-◌, ◌/◌, ◌%◌, ◌^◌, ◌≤◌, ◌<◌}
use native.Mathlib.Omega.{arith}
use lib.ListN.{length, get_or, take}
use Rattle.numbers.specs.Lists.{tab, at, sum}
use Rattle.numbers.proofs.Lists.{tab-length, get_d-tab, tab-ext}
use Rattle.sheet.specs.Bytes.{seasons_of, rows_of, cells_of, season_at, row_at}
use Rattle.sheet.specs.RunningSums.{vehicles_before}
use Rattle.sheet.proofs.Fleet.{vehicles-most}
use Rattle.sheet.proofs.Accepted.{Bytes, Accepted}
use Rattle.masses.specs.Figures.{year_figure, low_figure, high_figure, row_figures}
use Rattle.masses.specs.Bands.{all_days}
use Rattle.masses.specs.Day.{day_figures}
use Rattle.masses.proofs.MassSizes.{vehicle_most, RowSized, word-most, year-fits}
use Rattle.sheet_factors.proofs.AcceptedRange.{row-shares, sized}
use Rattle.report_words.specs.Years.{season_figure, season_added, SeasonFits, in_milligrams, filled}
use Rattle.report_words.proofs.Filled.{filled-less, first-at}
use Rattle.report_words.proofs.YearWords.{row-year-most}
use Rattle.report_sums.specs.Sums.{buffer_sum, resummed}
use Rattle.report_sums.proofs.SumSizes.{counted-most, sums-fit}
use Rattle.season_report.specs.Seasons.{alone, season_word, sums_of, season_report}
use Rattle.season_report.proofs.BlockSums.{SumsFit, sums_at, resummed-whole}

-- one season's figure of one vehicle, for all vehicles and in milligrams: a low rounded down, a high rounded up
pub word-from-season : (s : List ℕ) (j i m : ℕ) → m < 6
    → (season_figure s i m j * (row_at s i).vehicles + m % 2 * (10 ^ 9 - 1)) / 10 ^ 9 ≡ get_or (row_figures (cells_of s) (alone s j) (row_at s i)) m 0
unfolding row_figures low_figure high_figure year_figure season_figure day_figures
word-from-season s j i zero h = omega arith
word-from-season s j i (suc zero) h = omega arith
word-from-season s j i (suc (suc zero)) h = omega arith
word-from-season s j i (suc (suc (suc zero))) h = omega arith
word-from-season s j i (suc (suc (suc (suc zero)))) h = omega arith
word-from-season s j i (suc (suc (suc (suc (suc zero))))) h = omega arith
word-from-season s j i (suc (suc (suc (suc (suc (suc m)))))) h = absurd (omega arith)

-- a word summed over the first rows of a category, where each row's is bounded by its vehicles
sum-most : (s rows : List ℕ) (f : ℕ → Bool) (n j : ℕ)
    → ((i : ℕ) → i < n → at rows (6 * i + j) ≤ vehicle_most * (row_at s i).vehicles) → buffer_sum s rows f n j ≤ vehicle_most * vehicles_before s n
unfolding buffer_sum vehicles_before
sum-most s rows f zero j h = omega arith
sum-most s rows f (suc n) j h =
    omega (arith, sum-most s rows f n j (λ i l. h i (omega arith)), counted-most (f (row_at s n).class) (h n (omega arith)))

module _ {s : List ℕ} (bytes : Bytes s) (a : Accepted s) (j : ℕ) (there : j < seasons_of s) where
  -- a row in one season is within the limits of a sheet
  row_sized : (i : ℕ) → i < rows_of s → RowSized (cells_of s) (alone s j) (row_at s i)
  unfolding all_days
  row_sized i row = record {
    shares = row-shares (a.row i row);
    trips-most = (a.row i row).trips-most;
    days-most = omega (arith, (a.season j there).days-most);
    sized = (sized bytes a row there, tt);
  }

  -- a word of the rows
  pub season-word-at : (i m : ℕ) → i < rows_of s → m < 6
      → at (tab (season_word s j) (6 * rows_of s)) (6 * i + m) ≡ at (row_figures (cells_of s) (alone s j) (row_at s i)) m
  unfolding season_word
  season-word-at i m row h =
      let row_is : (6 * i + m) / 6 ≡ i = omega arith in
      let word-is : (6 * i + m) % 6 ≡ m = omega arith in
      get_d-tab (season_word s j) (6 * rows_of s) (6 * i + m) (omega arith) ∙ rw (row_is, word-is) refl

  -- no sum passes 64 bits
  pub season-sums-fit : SumsFit s (tab (season_word s j) (6 * rows_of s))
  season-sums-fit = record {
    sum_fits = λ f m h. omega (arith, most f m h, sums-fit (vehicles-most a (rows_of s) (omega arith)));
    total-fits = λ k h.
        omega (
          arith,
          each (18 + k) (omega arith),
          each (20 + k) (omega arith),
          each (22 + k) (omega arith),
          sums-fit (vehicles-most a (rows_of s) (omega arith)),
        );
  }
    where
      most : (f : ℕ → Bool) (m : ℕ) → m < 6
          → buffer_sum s (tab (season_word s j) (6 * rows_of s)) f (rows_of s) m ≤ vehicle_most * vehicles_before s (rows_of s)
      most f m h =
          sum-most s (tab (season_word s j) (6 * rows_of s)) f (rows_of s) m
          (λ i row. rw (season-word-at i m row h) (word-most (row_sized i row) m))

      each : (k : ℕ) → k < 24 → at (sums_of s (tab (season_word s j) (6 * rows_of s))) k ≤ vehicle_most * vehicles_before s (rows_of s)
      each k h = rw (sums_at s (tab (season_word s j) (6 * rows_of s)) k h) (most _ (k % 6) (omega arith))

  -- the season's figures fit 64 bits in words that are 0
  zero-fits : (words : List ℕ) → take (6 * rows_of s) words ≡ tab (λ (k : ℕ). 0) (6 * rows_of s) → SeasonFits s (season_at s j) words
  unfolding sum season_figure
  zero-fits words first = record {
    word_fits = λ k h.
        rw (first-at (λ (k : ℕ). 0) words (6 * rows_of s) k first h)
        (omega (arith, row-year-most bytes a (k / 6) (k % 6) (suc j) (omega arith) (omega arith), year-fits));
  }

  -- so they do where the words were cleared
  pub cleared-fits : (old zeros : List ℕ) → zeros ≡ filled (λ (k : ℕ). 0) (6 * rows_of s) old → SeasonFits s (season_at s j) zeros
  cleared-fits old zeros cleared =
      let n = 6 * rows_of s in zero-fits zeros (ap (take n) cleared ∙ filled-less _ old n n (omega arith))

  -- The words after each step of the code.
  module _ (old zeros added : List ℕ) (cleared : zeros ≡ filled (λ (k : ℕ). 0) (6 * rows_of s) old)
      (season : added ≡ filled (season_added s (season_at s j) zeros) (6 * rows_of s) zeros) where
    pub zeros-first : take (6 * rows_of s) zeros ≡ tab (λ (k : ℕ). 0) (6 * rows_of s)
    zeros-first = ap (take (6 * rows_of s)) cleared ∙ filled-less _ old (6 * rows_of s) (6 * rows_of s) (omega arith)

    -- the season's figure stands at k
    figure-at : (k : ℕ) → k < 6 * rows_of s → get_or added k 0 ≡ season_figure s (k / 6) (k % 6) j
    unfolding season_figure
    figure-at k h =
        first-at (season_added s (season_at s j) zeros) added (6 * rows_of s) k
        (ap (take (6 * rows_of s)) season ∙ filled-less _ zeros (6 * rows_of s) (6 * rows_of s) (omega arith)) h ∙
        rw (first-at (λ (k : ℕ). 0) zeros (6 * rows_of s) k zeros-first h) (omega arith)

    -- in milligrams it is the season's word
    pub words-first : (words : List ℕ) → words ≡ filled (in_milligrams s added) (6 * rows_of s) added
        → take (6 * rows_of s) words ≡ tab (season_word s j) (6 * rows_of s)
    unfolding season_word
    words-first words e =
        ap (take (6 * rows_of s)) e ∙ filled-less _ added (6 * rows_of s) (6 * rows_of s) (omega arith) ∙
        tab-ext (6 * rows_of s)
        (λ k h.
        let parity : k % 2 ≡ k % 6 % 2 = omega arith in
        rw (figure-at k h, parity) (word-from-season s j (k / 6) (k % 6) (omega arith)))

    -- and with the sums its block
    pub block_made : (words done : List ℕ) → words ≡ filled (in_milligrams s added) (6 * rows_of s) added → length words ≡ 6 * rows_of s + 26
        → done ≡ resummed s words → done ≡ season_report s j
    unfolding season_report
    block_made words done e long r =
        r ∙ resummed-whole s words (tab (season_word s j) (6 * rows_of s)) (tab-length _ (6 * rows_of s)) (words-first words e) (omega arith)
        season-sums-fit long
