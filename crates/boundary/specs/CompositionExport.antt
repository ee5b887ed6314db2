-- What a program in another language gets of the species of a sheet: numbers alone, as `CompositionCall` says them of the answer in Rattle.
-- Definitions only.
use Rattle.std.specs.Prelude.{List, ◌≡◌, ℕ, ◌+◌, ◌*◌, length, replicate, Ok, Err}
use Rattle.numbers.specs.Lists.{at}
use Rattle.sheet.specs.Bytes.{rows_of}
use Rattle.refusals.specs.Rule.{number}
use Rattle.refusals.specs.Check.{Answer}
use Rattle.sheet.specs.Demands.{Says}
use Rattle.report_words.specs.Report.{report}
use Rattle.report_words.specs.Promise.{ReportPromise}
use Rattle.inventory.specs.ReportCall.{written, report_demands}
use Rattle.inventory.specs.ReportAnswers.{report_check}
use Rattle.speciation.specs.Split.{SpeciesPromise}
use Rattle.species_report.specs.declared.composition.Composition.{Composition}
use Rattle.species_report.specs.Composition.{composition}
use Rattle.boundary.specs.declared.EvpComposition.{EvpComposition}

-- the total and the species, or the number and the place of a refusal with zeros
unfoldable pub composition_numbers : Answer Composition → EvpComposition
composition_numbers (Ok c) = record { number = 0; place = 0; total = c.total; milligrams = c.milligrams }
composition_numbers (Err refusal) = record { number = number refusal.rule; place = refusal.place; total = 0; milligrams = replicate 29 0 }

-- What holds after the call: the refusals and the words are those of the report call; with number 0 the total is the report's last word, and
-- the species are what is promised of it.
pub record CompositionNumbers (s old words : List ℕ) (r : EvpComposition) : Type 0 where
  pub answer-is : r ≡ composition_numbers (composition s (length old))
  pub words_are : words ≡ written (report_check s (length old)) (report s) old
  pub says : Says (report_demands s (length old)) r.number r.place
  pub reported : r.number ≡ 0 → ReportPromise s words
  pub total-is : r.number ≡ 0 → r.total ≡ at words (6 * rows_of s + 25)
  pub promise : r.number ≡ 0 → SpeciesPromise r.total r.milligrams
