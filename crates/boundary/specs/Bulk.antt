-- What a program in another language gets of the calls that answer in bulk: all factors of a row or of a sheet, and the report of each season.
-- Definitions only.
use Rattle.std.specs.Prelude.{List, Ok, Err, replicate, ◌≡◌, ℕ, ◌+◌, ◌*◌, ◌≤◌, ◌<◌, length, drop}
use Rattle.numbers.specs.Lists.{at}
use Rattle.sheet.specs.Bytes.{seasons_of, rows_of}
use Rattle.refusals.specs.Rule.{number}
use Rattle.sheet.specs.Demands.{Says}
use Rattle.report_words.specs.Categories.{report_length}
use Rattle.inventory.specs.FactorAnswers.{factor_answer}
use Rattle.inventory.specs.FactorBand.{FactorBand}
use Rattle.inventory.specs.ReportCall.{written}
use Rattle.factor_table.specs.RowFactors.{RowFactors, in_words, low_place, high_place, row_demands, row_answer}
use Rattle.factor_table.specs.Factors.{all_factors, factors_check, factors_demands, row_start}
use Rattle.season_report.specs.Seasons.{report_seasons, seasons_check, seasons_demands, SeasonPromise}
use Rattle.boundary.specs.declared.EvpCheck.{EvpCheck}
use Rattle.boundary.specs.declared.EvpRowFactors.{EvpRowFactors}
use Rattle.boundary.specs.Export.{check_numbers, factor_numbers}

-- the number and the place of an answer, and the bands; zeros for a refusal
unfoldable pub row_factors_numbers : RowFactors → EvpRowFactors
row_factors_numbers (Ok bands) = record { number = 0; place = 0; bands = in_words bands }
row_factors_numbers (Err refusal) = record { number = number refusal.rule; place = refusal.place; bands = replicate 14 0 }

-- all factors of a season and row: of each what the factor call promises, and the numbers that it gives
pub record RowFactorsNumbers (s : List ℕ) (season row : ℕ) (r : EvpRowFactors) : Type 0 where
  pub answer-is : r ≡ row_factors_numbers (row_answer s season row)
  pub says : Says (row_demands s season row) r.number r.place
  pub bands : r.number ≡ 0 → (k : ℕ) → 1 ≤ k → k ≤ 7
      → FactorBand s season row k (at r.bands (low_place k)) (at r.bands (high_place k))
  pub same : (k : ℕ) → 1 ≤ k → k ≤ 7
      → factor_numbers (factor_answer s season row k)
      ≡ record { number = r.number; place = r.place; low = at r.bands (low_place k); high = at r.bands (high_place k) }

-- all factors of a sheet
pub record FactorsNumbers (s old words : List ℕ) (r : EvpCheck) : Type 0 where
  pub answer-is : r ≡ check_numbers (factors_check s (length old))
  pub words_are : words ≡ written (factors_check s (length old)) (all_factors s) old
  pub says : Says (factors_demands s (length old)) r.number r.place
  pub bands : r.number ≡ 0 → (season row k : ℕ) → season < seasons_of s → row < rows_of s → 1 ≤ k → k ≤ 7
      → FactorBand s season row k (at words (row_start s season row + low_place k)) (at words (row_start s season row + high_place k))

-- the report of each season
pub record SeasonsNumbers (s old words : List ℕ) (r : EvpCheck) : Type 0 where
  pub answer-is : r ≡ check_numbers (seasons_check s (length old))
  pub words_are : words ≡ written (seasons_check s (length old)) (report_seasons s) old
  pub says : Says (seasons_demands s (length old)) r.number r.place
  pub promise : r.number ≡ 0 → (j : ℕ) → j < seasons_of s → SeasonPromise s j (drop (report_length s * j) words)
