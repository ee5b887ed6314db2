-- What versions 3 and 4 leave as it was: "In version 3 (version 2 otherwise) row bytes 20 to 23 are a u32 mileage M in km; 0 keeps the written
-- load." Definitions only.
use Rattle.std.specs.Prelude.{◌≡◌, List, ℕ, ◌+◌, ◌*◌, ◌≤◌, ◌<◌, get_or}
use Rattle.exact.specs.Factors.{Factor, factor}
use Rattle.exact.specs.Masses.{Mechanism, mass}
use Rattle.refusals.specs.Check.{Pass}
use Rattle.sheet.specs.Limits.{fleet_limit}
use Rattle.sheet.specs.Bytes.{seasons_of, rows_of, cells_of, season_at, season_list, row_at}
use Rattle.sheet.specs.Sheet.{sheet_check}
use Rattle.sheet.specs.RunningSums.{vehicles_before}
use Rattle.sheet.specs.NextVersion.{NextVersion, SameRow, FourthVersion}
use Rattle.report_words.specs.Report.{report}
use Rattle.inventory.specs.FactorAnswers.{factor_answer}
use Rattle.inventory.specs.SameGrid.{SameInventory}

-- row j of t counts exactly as row i of s: its mileage is 0, with every n it has the same exact factors and masses, its six words are the
-- same, and so is what the factor call answers of it
pub record SameCount (s t : List ℕ) (i j : ℕ) : Type 0 where
  pub no-mileage : (row_at t j).mileage ≡ 0
  pub factors : (n season : ℕ) (k : Factor) → season < seasons_of s
      → factor n (cells_of t) (season_at t season) (row_at t j) k ≡ factor n (cells_of s) (season_at s season) (row_at s i) k
  pub masses : (n : ℕ) (mechanism : Mechanism) → mass n (cells_of t) (season_list t) (row_at t j) mechanism ≡ mass n
      (cells_of s) (season_list s) (row_at s i) mechanism
  pub words : (k : ℕ) → k < 6 → get_or (report t) (6 * j + k) 0 ≡ get_or (report s) (6 * i + k) 0
  pub factor-answers : (season k : ℕ) → factor_answer t season j k ≡ factor_answer s season i k

-- so it is for every row of an accepted version 2 sheet that stands, in the same seasons and parking, in an accepted version 3 sheet,
-- whatever its other rows are
abbrev pub RowTheorem : Type 0
RowTheorem = (s t : List ℕ) (i j : ℕ) → SameRow s t i j → sheet_check s ≡ Pass → sheet_check t ≡ Pass → SameCount s t i j

-- and every accepted version 2 sheet is accepted in version 3, with the same inventory
abbrev pub VersionTheorem : Type 0
VersionTheorem = (s t : List ℕ) → NextVersion s t → sheet_check s ≡ Pass → SameInventory s t

-- "Version 4 is version 3 with bytes 6 and 7 as a u16 row count .. In version 4 the vehicles of all rows together are at most 100,000,000":
-- every accepted version 3 sheet with no more vehicles than that is accepted in version 4, with the same inventory
abbrev pub FourthTheorem : Type 0
FourthTheorem = (s t : List ℕ) → FourthVersion s t → sheet_check s ≡ Pass → vehicles_before s (rows_of s) ≤ fleet_limit → SameInventory s t
