-- Need not be believed: what the lines of a report are made from.
use Rattle.std.specs.Prelude.{List, ◌≡◌, ◌+◌, ◌*◌, ◌≤◌, ℕ, length, take}
use Rattle.refusals.specs.Check.{Pass}
use Rattle.sheet.specs.Sheet.{sheet_check}
use Rattle.report_words.specs.Report.{report}
use Rattle.report_words.specs.Categories.{report_length}
use Rattle.text.specs.Lines.{report_lines}
use Rattle.report_text.specs.declared.ReportLines.{ReportLines}

-- the sheet is accepted, and its report stands at the front of the words
pub record Reported (s words : List ℕ) : Type 0 where
  pub accepted : sheet_check s ≡ Pass
  pub there : report_length s ≤ length words
  pub first : take (report_length s) words ≡ report s

-- there are words for so many rows; the lines of a report
abbrev pub LinesThere : ReportLines → Type 0
LinesThere r = 6 * r.rows + 26 ≤ length r.words.now

abbrev pub lines_text : ReportLines → List ℕ
lines_text r = report_lines r.version r.rows r.words.now
