-- What holds of a text holds of the numbers that leave the library with it.
-- Assumes nothing.
use Rattle.std.proofs.Common.{Ok, Err}
use mathlib.Core.List.{List}
use mathlib.Core.Path.{◌≡◌, refl, ap}
use Prim.Native.Nat.{ℕ}
use lib.ListN.{length}
use Rattle.refusals.specs.Check.{Check, number_of, place_of}
use Rattle.sheet.specs.Versions.{version_of}
use Rattle.sheet.specs.Bytes.{rows_of}
use Rattle.report_words.specs.Report.{report}
use Rattle.inventory.specs.ReportAnswers.{report_check}
use Rattle.refusals.proofs.Numbers.{zero-passes}
use Rattle.text.specs.Lines.{report_lines, refusal_line}
use Rattle.report_text.specs.Text.{text_of, report_text, TextCall}
use Rattle.boundary.specs.declared.EvpText.{EvpText}
use Rattle.boundary.specs.TextExport.{text_numbers, TextNumbers}

-- with number 0 the text is a report
report-of : (s : List ℕ) (room : ℕ) → number_of (report_check s room) ≡ 0 → report_text s room ≡ report_lines (version_of s) (rows_of s) (report s)
unfolding report_text text_of
report-of s room zero = rw (zero-passes (report_check s room) zero) refl

-- with any other it is that number and its place
refusal-of : (s : List ℕ) (check : Check) → ¬ (number_of check ≡ 0) → text_of check s ≡ refusal_line (number_of check) (place_of check)
unfolding text_of number_of place_of
refusal-of s (Ok _) n = absurd (n refl)
refusal-of s (Err why) n = refl

pub text-numbers : {s old words before out : List ℕ} {check : Check} {size : ℕ} {r : EvpText} → check ≡ report_check s (length old)
    → TextCall s old words before out size → r ≡ text_numbers check size → TextNumbers s old words before out r
unfolding text_numbers report_text
text-numbers {s} {old} e a made =
    rw (made, e)
    (record {
      answer-is = ap (text_numbers (report_check s (length old))) a.length-is;
      text = a;
      says = a.reported.says;
      a-report = report-of s (length old);
      a-refusal = refusal-of s (report_check s (length old));
    })
