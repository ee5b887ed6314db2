-- The text that is printed for a sheet, and what the text call leaves. Definitions only.
use Rattle.std.specs.Prelude.{List, ◌≡◌, ℕ, ◌+◌, ◌*◌, ◌≤◌, length, Ok, Err}
use Rattle.refusals.specs.Rule.{number}
use Rattle.refusals.specs.Check.{Check}
use Rattle.sheet.specs.Versions.{version_of}
use Rattle.sheet.specs.Bytes.{rows_of}
use Rattle.report_words.specs.Report.{report}
use Rattle.inventory.specs.ReportCall.{ReportCall}
use Rattle.inventory.specs.ReportAnswers.{report_check}
use Rattle.text.specs.Lines.{report_lines, refusal_line}
use Rattle.text.specs.Whole.{printed}

-- "prints `refused N at P`, or all words as below"
unfoldable pub text_of : Check → List ℕ → List ℕ
text_of (Ok _) s = report_lines (version_of s) (rows_of s) (report s)
text_of (Err refusal) s = refusal_line (number refusal.rule) refusal.place

-- the text of a sheet where so many words are lent for its report: with too few it is a refusal too, number 22
unfoldable pub report_text : List ℕ → ℕ → List ℕ
report_text s room = text_of (report_check s room) s

-- no text is longer than that of 1,000 rows whose words have 20 digits each
abbrev pub text_most : ℕ
text_most = 151 * 1000 + 622

-- What holds after the call, with the words and the bytes that stood in the two buffers before it and those that stand there now: the
-- words are those of the report call, and the length that is answered is that of the text, whether it fits or not.
pub record TextCall (s old words before out : List ℕ) (r : ℕ) : Type 0 where
  pub reported : ReportCall s old words (report_check s (length old))
  pub length-is : r ≡ length (report_text s (length old))
  pub text-is : out ≡ printed (report_text s (length old)) before
  pub length_most : r ≤ text_most
