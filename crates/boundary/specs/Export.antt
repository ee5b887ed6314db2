-- What a program in another language gets: numbers alone. Definitions only.
use Rattle.std.specs.Prelude.{List, ◌≡◌, ℕ, length, Ok, Err}
use Rattle.refusals.specs.Rule.{number}
use Rattle.refusals.specs.Check.{Check}
use Rattle.sheet.specs.Demands.{Says}
use Rattle.report_words.specs.Report.{report}
use Rattle.report_words.specs.Promise.{ReportPromise}
use Rattle.inventory.specs.FactorAnswers.{factor_answer}
use Rattle.inventory.specs.FactorBand.{FactorAnswer, FactorBand, factor_demands}
use Rattle.inventory.specs.ReportCall.{written, report_demands}
use Rattle.inventory.specs.ReportAnswers.{report_check}
use Rattle.boundary.specs.declared.EvpCheck.{EvpCheck}
use Rattle.boundary.specs.declared.EvpFactor.{EvpFactor}

-- the number and the place of an answer
unfoldable pub check_numbers : Check → EvpCheck
check_numbers (Ok _) = record { number = 0; place = 0 }
check_numbers (Err refusal) = record { number = number refusal.rule; place = refusal.place }

-- with the low and the high of a band, 0 and 0 for a refusal
unfoldable pub factor_numbers : FactorAnswer → EvpFactor
factor_numbers (Ok band) = record { number = 0; place = 0; low = band.low; high = band.high }
factor_numbers (Err refusal) = record { number = number refusal.rule; place = refusal.place; low = 0; high = 0 }

-- what holds after the report call, as `ReportCall` says it of the answer in Rattle
pub record ReportNumbers (s old words : List ℕ) (r : EvpCheck) : Type 0 where
  pub answer-is : r ≡ check_numbers (report_check s (length old))
  pub words_are : words ≡ written (report_check s (length old)) (report s) old
  pub says : Says (report_demands s (length old)) r.number r.place
  pub promise : r.number ≡ 0 → ReportPromise s words

-- and after the factor call
pub record FactorNumbers (s : List ℕ) (season row k : ℕ) (r : EvpFactor) : Type 0 where
  pub answer-is : r ≡ factor_numbers (factor_answer s season row k)
  pub says : Says (factor_demands s season row k) r.number r.place
  pub band : r.number ≡ 0 → FactorBand s season row k r.low r.high
