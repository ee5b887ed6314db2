-- "A ledger holds an accepted sheet and its report": what a call on it answers, and what it leaves in the sheet's bytes and the report's words,
-- both of which the caller lends. Definitions only.
use Rattle.std.specs.Prelude.{List, [], ◌∷◌, ◌≡◌, ℕ, ◌+◌, ◌≤◌, ◌<◌, length, Ok, Err}
use Rattle.numbers.specs.Lists.{at}
use Rattle.exact.specs.Factors.{total}
use Rattle.refusals.specs.declared.Rule.TheVariants as rule
use Rattle.refusals.specs.Check.{Check, refuse, ◌then◌, number_of, place_of}
use Rattle.sheet.specs.Limits.{vehicles_limit, fleet_limit}
use Rattle.sheet.specs.Versions.{version_of, has_many_rows}
use Rattle.sheet.specs.Bytes.{rows_of}
use Rattle.sheet.specs.Counts.{counts_of, with_count}
use Rattle.sheet.specs.Demands.{Demands, demand, ◌next◌, Says}
use Rattle.report_words.specs.Report.{report}
use Rattle.inventory.specs.ReportCall.{written, report_demands}
use Rattle.inventory.specs.ReportAnswers.{report_check}
use Rattle.report_sums.specs.Renewed.{renewed}
use Rattle.ledger.specs.declared.Call.{Call}
use Rattle.ledger.specs.declared.Call.TheVariants.{Arrival, Departure}
use Rattle.ledger.specs.Machine.{row_of, wrong, new_count}

-- the answer: what opening would refuse is refused alike; then 29, "place 0"
unfoldable pub change_check : List ℕ → ℕ → Call → Check
change_check s room call = report_check s room then refuse (wrong (has_many_rows s) (counts_of s) call) rule.Count 0

-- the sheet after an answer: the row's four bytes of vehicles are changed, and no other; a refused call changes none
unfoldable pub sheet_after : Check → List ℕ → Call → List ℕ
sheet_after (Ok _) s call = with_count s (row_of call) (new_count (counts_of s) call)
sheet_after (Err refusal) s call = s

-- the words after it, with the sheet that is left: those of the row are made anew, and all sums; a refused call changes none
unfoldable pub words_after : Check → List ℕ → Call → List ℕ → List ℕ
words_after (Ok _) s call words = renewed s (row_of call) words
words_after (Err refusal) s call words = words

-- what 29 demands, in plain arithmetic: that there is such a row, and then
abbrev pub Within : List ℕ → Call → Type 0
Within s (Departure row k) = k ≤ at (counts_of s) row
Within s (Arrival row k) = (at (counts_of s) row + k ≤ vehicles_limit) × (4 ≤ version_of s → total (counts_of s) + k ≤ fleet_limit)

abbrev pub change_demands : List ℕ → ℕ → Call → Demands
change_demands s room call = report_demands s room next demand rule.Count 0 ((row_of call < rows_of s) × Within s call)

-- What holds after a call, with the bytes and words that stood there before it and those that stand there now.
pub record ChangeCall (s old : List ℕ) (call : Call) (after words : List ℕ) (r : Check) : Type 0 where
  pub answer-is : r ≡ change_check s (length old) call
  pub sheet-is : after ≡ sheet_after r s call
  pub words_are : words ≡ words_after r after call old
  pub says : Says (change_demands s (length old) call) (number_of r) (place_of r)

-- the two buffers
pub record Ledger : Type 0 where
  pub sheet : List ℕ
  pub words : List ℕ

-- a call on them
unfoldable pub answer : Ledger → Call → Check
answer x call = change_check x.sheet (length x.words) call

unfoldable pub after : Ledger → Call → Ledger
after x call =
    let s = sheet_after (answer x call) x.sheet call in
    record { sheet = s; words = words_after (answer x call) s call x.words }

-- "opening one refuses as the report does": opening is the report call
unfoldable pub opened : List ℕ → List ℕ → Ledger
opened s w = record { sheet = s; words = written (report_check s (length w)) (report s) w }

-- a list of calls, the first one first: what it leaves, and what it answers
unfoldable pub run : List Call → Ledger → Ledger
run [] x = x
run (call ∷ calls) x = run calls (after x call)

unfoldable pub answers : List Call → Ledger → List Check
answers [] x = []
answers (call ∷ calls) x = answer x call ∷ answers calls (after x call)
