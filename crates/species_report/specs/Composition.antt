-- What the call of a sheet's species answers. Definitions only.
use Rattle.std.specs.Prelude.{List, ◌≡◌, ℕ, ◌+◌, ◌*◌, length, Ok, Err}
use Rattle.numbers.specs.Lists.{at}
use Rattle.refusals.specs.Check.{Answer, Check}
use Rattle.sheet.specs.Bytes.{rows_of}
use Rattle.report_words.specs.Report.{grand_total}
use Rattle.inventory.specs.ReportCall.{ReportCall}
use Rattle.inventory.specs.ReportAnswers.{report_check}
use Rattle.speciation.specs.Split.{species_masses, SpeciesPromise}
use Rattle.species_report.specs.declared.composition.Composition.{Composition}

-- "It is applied to the reported high total."
abbrev pub high_total : List ℕ → ℕ
high_total s = grand_total s 1

-- the species of a sheet that was checked; none where it is refused
unfoldable pub composition_answered : Check → List ℕ → Answer Composition
composition_answered (Ok _) s = Ok (record { total = high_total s; milligrams = species_masses (high_total s) })
composition_answered (Err refusal) s = Err refusal

-- the checks are those of the report, 22 too: so many words are lent for it
unfoldable pub composition : List ℕ → ℕ → Answer Composition
composition s room = composition_answered (report_check s room) s

-- What holds after the call, with the words that stood in the buffer before it and those that stand there now.
pub record CompositionCall (s old words : List ℕ) (r : Answer Composition) : Type 0 where
  pub answer-is : r ≡ composition s (length old)
  pub reported : ReportCall s old words (report_check s (length old))
  -- of an accepted sheet: the total is the last word of the report, and the species are what is promised of it
  pub total-is : (c : Composition) → r ≡ Ok c → c.total ≡ at words (6 * rows_of s + 25)
  pub promise : (c : Composition) → r ≡ Ok c → SpeciesPromise c.total c.milligrams
