-- How the year stands to its seasons: theorems on the exact masses and on the words. Definitions only.
use Rattle.std.specs.Prelude.{List, ◌≡◌, ℕ, suc, zero, ◌+◌, ◌*◌, ◌≤◌, ◌<◌}
use Rattle.numbers.specs.Fraction.{Fraction, ◌≈ᶠ◌, ◌+ᶠ◌, whole}
use Rattle.numbers.specs.Lists.{tab, at, sum}
use Rattle.exact.specs.Masses.{Mechanism, mass}
use Rattle.sheet.specs.Bytes.{seasons_of, rows_of, cells_of, season_list, row_at}
use Rattle.report_words.specs.Report.{report}
use Rattle.report_words.specs.Categories.{report_length}
use Rattle.season_report.specs.Seasons.{alone, with_sums, season_report}

-- the exact masses of the first k seasons of row i, each of that season alone, added up
unfoldable pub seasons_mass : ℕ → List ℕ → ℕ → Mechanism → ℕ → Fraction
seasons_mass n s i mechanism zero = whole 0
seasons_mass n s i mechanism (suc k) = seasons_mass n s i mechanism k +ᶠ mass n (cells_of s) (alone s k) (row_at s i) mechanism

-- The exact mass of the year is the sum of the exact masses of its seasons.
abbrev pub YearTheorem : Type 0
YearTheorem = (n : ℕ) (s : List ℕ) (i : ℕ) (mechanism : Mechanism)
    → mass n (cells_of s) (season_list s) (row_at s i) mechanism ≈ᶠ seasons_mass n s i mechanism (seasons_of s)

-- word k of the seasons' blocks, added up
abbrev pub seasons_sum : List ℕ → ℕ → ℕ
seasons_sum s k = sum (λ (j : ℕ). at (season_report s j) k) (seasons_of s)

-- The band of the year lies within the sums of the bands of its seasons, in every row, subtotal and total: lows stand at even places of a
-- report, highs at odd ones.
abbrev pub BandTheorem : Type 0
BandTheorem = (s : List ℕ) (m : ℕ) → 2 * m + 1 < report_length s
    → (seasons_sum s (2 * m) ≤ at (report s) (2 * m)) × (at (report s) (2 * m + 1) ≤ seasons_sum s (2 * m + 1))

-- A report is the words of its rows with the same sums as a season's block,
abbrev pub LayoutTheorem : Type 0
LayoutTheorem = (s : List ℕ) → report s ≡ with_sums s (tab (at (report s)) (6 * rows_of s))

-- and where the sheet has one season, that season's block is the report.
abbrev pub OneSeasonTheorem : Type 0
OneSeasonTheorem = (s : List ℕ) → seasons_of s ≡ 1 → season_report s 0 ≡ report s
