-- How a program that answers one sheet ends. Definitions only.
use Rattle.std.specs.Prelude.{List, ℕ, Ok, Err}
use Rattle.refusals.specs.Check.{Check}
use Rattle.inventory.specs.ReportAnswers.{report_check}
use Rattle.program.specs.Reads.{Taken, Unread}
use Rattle.program.specs.Writes.{standard_output, AnswerWritten}

-- the exit status of an answer: 0 a report, 1 a refusal. A program has a buffer for 1,000 rows, 6,026 words, so that it is never too small
unfoldable pub check_status : Check → ℕ
check_status (Ok _) = 0
check_status (Err refusal) = 1

unfoldable pub sheet_status : List ℕ → ℕ
sheet_status s = check_status (report_check s 6026)

-- The text of a sheet was handed over to be written to standard output, and the exit status is that of the sheet; or not all of it was taken,
-- which has been said on standard error, and the status is 2.
abbrev pub Answered : List ℕ → List ℕ → ℕ → Type 0
Answered s text = AnswerWritten standard_output text (sheet_status s)

-- The exit status, and what was written: 0 or 1 with the text that is defined of the sheet that was read, all of it, or 2 where it could not be
-- read, or not all of its text could be written. There is no other end.
pub data Ends (text_of : List ℕ → List ℕ) : ℕ → Type 0 where
  unread : Unread 1 → Ends text_of 2
  answered : (bytes : List ℕ) {status : ℕ} → Taken 1 bytes → Answered bytes (text_of bytes) status → Ends text_of status
