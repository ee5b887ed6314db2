-- What a program in another language gets of a call on a shared ledger: numbers alone, as the answer's definition in Rattle says them.
-- Definitions only.
use Rattle.std.specs.Prelude.{List, ◌≡◌, ℕ, length, Ok, Err}
use Rattle.numbers.specs.Lists.{tab}
use Rattle.refusals.specs.Check.{Answer, number_of, place_of}
use Rattle.sheet.specs.Demands.{Says}
use Rattle.report_words.specs.Report.{report}
use Rattle.report_words.specs.Promise.{ReportPromise}
use Rattle.inventory.specs.ReportCall.{written}
use Rattle.ledger.specs.declared.Call.{Call}
use Rattle.ledger.specs.Ledger.{sheet_after, words_after}
use Rattle.shared_ledger.specs.declared.RowRead.{RowRead}
use Rattle.shared_ledger.specs.Opening.{shared_check, shared_demands}
use Rattle.shared_ledger.specs.Calls.{shared_change_check, shared_change_demands, shared_row_answer, shared_row_demands}
use Rattle.shared_ledger.specs.Calls.{shared_totals_answer, shared_totals_demands}
use Rattle.boundary.specs.declared.EvpCheck.{EvpCheck}
use Rattle.boundary.specs.declared.EvpRow.{EvpRow}
use Rattle.boundary.specs.declared.EvpTotals.{EvpTotals}
use Rattle.boundary.specs.Export.{check_numbers}

unfoldable pub zeros : ℕ → List ℕ
zeros n = tab (λ (m : ℕ). 0) n

-- the count and the words that a read of a row returns, and the words of a read of the totals: zeros where it is refused
unfoldable pub count_told : Answer RowRead → ℕ
count_told (Ok read) = read.count
count_told (Err refusal) = 0

unfoldable pub words_told : Answer RowRead → List ℕ
words_told (Ok read) = read.words
words_told (Err refusal) = zeros 6

unfoldable pub words_of_totals : Answer (List ℕ) → List ℕ
words_of_totals (Ok words) = words
words_of_totals (Err refusal) = zeros 26

-- all numbers of a read
unfoldable pub row_numbers : Answer RowRead → EvpRow
row_numbers a = record { number = number_of a; place = place_of a; count = count_told a; words = words_told a }

unfoldable pub totals_numbers : Answer (List ℕ) → EvpTotals
totals_numbers a = record { number = number_of a; place = place_of a; words = words_of_totals a }

-- after an opening
pub record OpenNumbers (s owners old words : List ℕ) (r : EvpCheck) : Type 0 where
  pub answer-is : r ≡ check_numbers (shared_check s owners (length old))
  pub words_are : words ≡ written (shared_check s owners (length old)) (report s) old
  pub says : Says (shared_demands s owners (length old)) r.number r.place
  pub promise : r.number ≡ 0 → ReportPromise s words

-- after a change
pub record SharedNumbers (s owners old : List ℕ) (who : ℕ) (call : Call) (after words : List ℕ) (r : EvpCheck) : Type 0 where
  pub answer-is : r ≡ check_numbers (shared_change_check s owners (length old) who call)
  pub sheet-is : after ≡ sheet_after (shared_change_check s owners (length old) who call) s call
  pub words_are : words ≡ words_after (shared_change_check s owners (length old) who call) after call old
  pub says : Says (shared_change_demands s owners (length old) who call) r.number r.place

-- after a read
pub record RowNumbers (s owners words : List ℕ) (who i : ℕ) (r : EvpRow) : Type 0 where
  pub answer-is : r ≡ row_numbers (shared_row_answer s owners words who i)
  pub says : Says (shared_row_demands s owners (length words) who i) r.number r.place

pub record TotalsNumbers (s owners words : List ℕ) (who : ℕ) (r : EvpTotals) : Type 0 where
  pub answer-is : r ≡ totals_numbers (shared_totals_answer s owners words who)
  pub says : Says (shared_totals_demands s owners (length words) who) r.number r.place
