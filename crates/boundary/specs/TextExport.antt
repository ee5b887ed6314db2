-- What a program in another language gets of the text call: whether the text is a report, and its length. Definitions only.
use Rattle.std.specs.Prelude.{List, ◌≡◌, ℕ, length}
use Rattle.refusals.specs.Check.{Check, number_of, place_of}
use Rattle.sheet.specs.Versions.{version_of}
use Rattle.sheet.specs.Bytes.{rows_of}
use Rattle.sheet.specs.Demands.{Says}
use Rattle.report_words.specs.Report.{report}
use Rattle.inventory.specs.ReportCall.{report_demands}
use Rattle.inventory.specs.ReportAnswers.{report_check}
use Rattle.text.specs.Lines.{report_lines, refusal_line}
use Rattle.report_text.specs.Text.{report_text, TextCall}
use Rattle.boundary.specs.declared.EvpText.{EvpText}

-- number and place of the report, and the bytes of the text
unfoldable pub text_numbers : Check → ℕ → EvpText
text_numbers check bytes = record { number = number_of check; place = place_of check; bytes = bytes }

-- What holds after the call, as `TextCall` says it of the length in Rattle: with number 0 the text is the report's lines, with any other the
-- line `refused N at P` of this number and place.
pub record TextNumbers (s old words before out : List ℕ) (r : EvpText) : Type 0 where
  pub answer-is : r ≡ text_numbers (report_check s (length old)) (length (report_text s (length old)))
  pub text : TextCall s old words before out r.bytes
  pub says : Says (report_demands s (length old)) r.number r.place
  pub a-report : r.number ≡ 0 → report_text s (length old) ≡ report_lines (version_of s) (rows_of s) (report s)
  pub a-refusal : ¬ (r.number ≡ 0) → report_text s (length old) ≡ refusal_line r.number r.place
