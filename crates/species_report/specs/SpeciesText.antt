-- The text that is printed for the species of a sheet, and what the text call leaves. Definitions only.
use Rattle.std.specs.Prelude.{List, ◌≡◌, ℕ, ◌+◌, ◌*◌, ◌≤◌, length, Ok, Err}
use Rattle.refusals.specs.Rule.{number}
use Rattle.refusals.specs.Check.{Answer}
use Rattle.sheet.specs.Versions.{version_of}
use Rattle.inventory.specs.ReportCall.{ReportCall}
use Rattle.inventory.specs.ReportAnswers.{report_check}
use Rattle.text.specs.Lines.{refusal_line}
use Rattle.text.specs.Whole.{printed}
use Rattle.species_report.specs.declared.composition.Composition.{Composition}
use Rattle.species_report.specs.Composition.{composition}
use Rattle.species_report.specs.Lines.{composition_lines}

-- `refused N at P`, or the line `EVP V total T` and a line for each species
unfoldable pub lines_of : Answer Composition → List ℕ → List ℕ
lines_of (Ok c) s = composition_lines (version_of s) c.total c.milligrams
lines_of (Err refusal) s = refusal_line (number refusal.rule) refusal.place

-- the text of a sheet where so many words are lent for its report: with too few it is a refusal too, number 22
unfoldable pub species_text : List ℕ → ℕ → List ℕ
species_text s room = lines_of (composition s room) s

-- no text is longer: 29 lines of 44 bytes, and that of the total
abbrev pub lines_most : ℕ
lines_most = 44 * 29 + 52

-- What holds after the call, with the words and the bytes that stood in the two buffers before it and those that stand there now: the
-- words are those of the report call, and the length that is answered is that of the text, whether it fits or not.
pub record SpeciesTextCall (s old words before out : List ℕ) (r : ℕ) : Type 0 where
  pub reported : ReportCall s old words (report_check s (length old))
  pub length-is : r ≡ length (species_text s (length old))
  pub text-is : out ≡ printed (species_text s (length old)) before
  pub length_most : r ≤ lines_most
