-- What the factor call promises of its answer. Definitions only.
use Rattle.std.specs.Prelude.{◌≡◌, List, ℕ}
use Rattle.refusals.specs.Check.{number_of, place_of}
use Rattle.sheet.specs.Demands.{Says}
use Rattle.inventory.specs.FactorBand.{FactorAnswer, FactorBand, answer_low, answer_high, factor_demands}
use Rattle.inventory.specs.FactorAnswers.{factor_answer}

-- What holds of the answer. Document 01 leaves low and high open within the bounds of the band.
pub record FactorCall (s : List ℕ) (season row k : ℕ) (r : FactorAnswer) : Type 0 where
  pub answer-is : r ≡ factor_answer s season row k
  pub says : Says (factor_demands s season row k) (number_of r) (place_of r)
  pub band : number_of r ≡ 0 → FactorBand s season row k (answer_low r) (answer_high r)
