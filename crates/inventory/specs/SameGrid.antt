-- What a version 1 sheet and the version 2 sheet with the products of its lists have in common: "a grid holding the products of two
-- lists has the same exact masses as those lists". Definitions only.
use Rattle.std.specs.Prelude.{◌≡◌, List, ℕ, ◌<◌}
use Rattle.exact.specs.Factors.{Factor, factor}
use Rattle.exact.specs.Masses.{Mechanism, mass}
use Rattle.refusals.specs.Check.{Pass}
use Rattle.sheet.specs.Bytes.{seasons_of, rows_of, cells_of, season_at, season_list, row_at}
use Rattle.sheet.specs.Sheet.{sheet_check}
use Rattle.sheet.specs.SameGrid.{GridOf}
use Rattle.report_words.specs.Report.{report}
use Rattle.inventory.specs.FactorAnswers.{factor_answer}
use Rattle.inventory.specs.ReportAnswers.{report_check}

-- t is accepted, and with every n each season and row of s has the same exact factors and each row the same exact masses; both calls
-- answer the same of s and of t, with the same words
pub record SameInventory (s t : List ℕ) : Type 0 where
  pub accepted : sheet_check t ≡ Pass
  pub seasons : seasons_of t ≡ seasons_of s
  pub rows : rows_of t ≡ rows_of s
  pub factors : (n season row : ℕ) (k : Factor) → season < seasons_of s → row < rows_of s
      → factor n (cells_of t) (season_at t season) (row_at t row) k ≡ factor n (cells_of s) (season_at s season) (row_at s row) k
  pub masses : (n row : ℕ) (mechanism : Mechanism) → row < rows_of s
      → mass n (cells_of t) (season_list t) (row_at t row) mechanism ≡ mass n (cells_of s) (season_list s) (row_at s row) mechanism
  pub words : report t ≡ report s
  pub report-answers : (room : ℕ) → report_check t room ≡ report_check s room
  pub factor-answers : (season row k : ℕ) → factor_answer t season row k ≡ factor_answer s season row k

-- so it is for every accepted s and every t that is s with the grid of its products
abbrev pub GridTheorem : Type 0
GridTheorem = (s t : List ℕ) → GridOf s t → sheet_check s ≡ Pass → SameInventory s t
