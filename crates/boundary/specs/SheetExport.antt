-- What a program in another language gets of the calls that check a sheet and make no report: whether it is accepted, and how many words its
-- report has. Definitions only.
use Rattle.std.specs.Prelude.{List, ◌≡◌, ℕ, ◌≤◌, length, Ok, Err}
use Rattle.refusals.specs.Check.{Check, Pass}
use Rattle.sheet.specs.Sheet.{sheet_check}
use Rattle.sheet.specs.Demands.{Says, demands}
use Rattle.report_words.specs.Report.{report}
use Rattle.inventory.specs.ReportAnswers.{report_check}
use Rattle.boundary.specs.declared.EvpCheck.{EvpCheck}
use Rattle.boundary.specs.Export.{check_numbers}

-- what holds after the check of a sheet, as `check_sheet` has it in Rattle
pub record SheetNumbers (s : List ℕ) (r : EvpCheck) : Type 0 where
  pub answer-is : r ≡ check_numbers (sheet_check s)
  pub says : Says (demands s) r.number r.place

-- the words that a checked sheet's report has, which are so many where there is one; 0 where the sheet is refused
unfoldable pub words_of : Check → ℕ → ℕ
words_of (Ok _) count = count
words_of (Err refusal) count = 0

unfoldable pub report_words : List ℕ → ℕ
report_words s = words_of (sheet_check s) (length (report s))

-- What holds of the count: 0 is that of a refused sheet alone; and of an accepted one so many words are what the report call asks for, no
-- fewer and no more.
pub record WordsCounted (s : List ℕ) (r : ℕ) : Type 0 where
  pub count-is : r ≡ report_words s
  pub refused : r ≡ 0 → ¬ (sheet_check s ≡ Pass)
  pub enough : (room : ℕ) → sheet_check s ≡ Pass → r ≤ room → report_check s room ≡ Pass
  pub least : (room : ℕ) → report_check s room ≡ Pass → r ≤ room
  pub most : r ≤ 6026
