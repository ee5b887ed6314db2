-- "Who may touch which row": what each call on a shared ledger answers and what it leaves in the buffers. Definitions only.
use Rattle.std.specs.Prelude.{Bool, true, false, not, ◌&&◌, ◌||◌, List, ◌⊎◌, ◌≡◌, ℕ, ◌+◌, ◌*◌, ◌≤◌, ◌<◌, leb, ltb, eqb, length, Ok, Err}
use Rattle.numbers.specs.Lists.{tab, at}
use Rattle.refusals.specs.declared.Rule.TheVariants as rule
use Rattle.refusals.specs.Check.{Answer, Check, refuse, ◌then◌, number_of, place_of}
use Rattle.sheet.specs.Versions.{has_many_rows}
use Rattle.sheet.specs.Bytes.{rows_of, row_at}
use Rattle.sheet.specs.Counts.{counts_of}
use Rattle.sheet.specs.Demands.{Demands, demand, ◌next◌, Says}
use Rattle.ledger.specs.declared.Call.{Call}
use Rattle.ledger.specs.declared.Call.TheVariants.{Arrival, Departure}
use Rattle.ledger.specs.Machine.{row_of, wrong}
use Rattle.ledger.specs.Ledger.{sheet_after, words_after, Within}
use Rattle.shared_ledger.specs.declared.RowRead.{RowRead}
use Rattle.shared_ledger.specs.Opening.{vehicles_each, vehicles_held, shared_check, shared_demands}

-- who owns row i: no one where there is no such row, however long the list of owners is
unfoldable pub owner_of : List ℕ → List ℕ → ℕ → ℕ
owner_of s owners i = elim (ltb i (rows_of s)) [ true ↦ at owners i | false ↦ 0 ]

-- "A participant changes and reads the rows of their own; the marker reads all rows and totals but changes none."
unfoldable pub may_change : List ℕ → List ℕ → ℕ → ℕ → Bool
may_change s owners who i = ltb 0 who && eqb (owner_of s owners i) who

unfoldable pub may_read : List ℕ → List ℕ → ℕ → ℕ → Bool
may_read s owners who i = eqb who 0 || eqb (owner_of s owners i) who

unfoldable pub may_total : ℕ → Bool
may_total who = eqb who 0

-- "an arrival past a participant's vehicles", of whom they have so many
unfoldable pub past_share : ℕ → Call → Bool
past_share held (Arrival row k) = ltb vehicles_each (held + k)
past_share held (Departure row k) = false

-- Every call first makes the checks of an opening. Then 30, "a call without the right to it, which for a participant is any row not their
-- own, absent rows too, checked before 29"; 29; and 31, "checked last"; each with "place 0".
unfoldable pub shared_change_check : List ℕ → List ℕ → ℕ → ℕ → Call → Check
shared_change_check s owners room who call =
    shared_check s owners room then
    refuse (not (may_change s owners who (row_of call))) rule.Right 0 then
    refuse (wrong (has_many_rows s) (counts_of s) call) rule.Count 0 then
    refuse (past_share (vehicles_held s owners who (rows_of s)) call) rule.Share 0

unfoldable pub shared_row_check : List ℕ → List ℕ → ℕ → ℕ → ℕ → Check
shared_row_check s owners room who i =
    shared_check s owners room then
    refuse (not (may_read s owners who i)) rule.Right 0 then
    refuse (leb (rows_of s) i) rule.Count 0

unfoldable pub shared_totals_check : List ℕ → List ℕ → ℕ → ℕ → Check
shared_totals_check s owners room who = shared_check s owners room then refuse (not (may_total who)) rule.Right 0

-- the same in plain arithmetic
abbrev pub WithinShare : ℕ → Call → Type 0
WithinShare held (Arrival row k) = held + k ≤ vehicles_each
WithinShare held (Departure row k) = Unit {0}

abbrev pub shared_change_demands : List ℕ → List ℕ → ℕ → ℕ → Call → Demands
shared_change_demands s owners room who call =
    shared_demands s owners room next
    demand rule.Right 0 ((0 < who) × (owner_of s owners (row_of call) ≡ who)) next
    demand rule.Count 0 ((row_of call < rows_of s) × Within s call) next
    demand rule.Share 0 (WithinShare (vehicles_held s owners who (rows_of s)) call)

abbrev pub shared_row_demands : List ℕ → List ℕ → ℕ → ℕ → ℕ → Demands
shared_row_demands s owners room who i =
    shared_demands s owners room next
    demand rule.Right 0 ((who ≡ 0) ⊎ (owner_of s owners i ≡ who)) next
    demand rule.Count 0 (i < rows_of s)

abbrev pub shared_totals_demands : List ℕ → List ℕ → ℕ → ℕ → Demands
shared_totals_demands s owners room who = shared_demands s owners room next demand rule.Right 0 (who ≡ 0)

-- What holds after a change: one that passes leaves what the ledger's own call leaves, a refused one changes nothing.
pub record SharedChangeCall (s owners old : List ℕ) (who : ℕ) (call : Call) (after words : List ℕ) (r : Check) : Type 0 where
  pub answer-is : r ≡ shared_change_check s owners (length old) who call
  pub sheet-is : after ≡ sheet_after r s call
  pub words_are : words ≡ words_after r after call old
  pub says : Says (shared_change_demands s owners (length old) who call) (number_of r) (place_of r)

-- n words of a buffer from a place on
unfoldable pub words_from : List ℕ → ℕ → ℕ → List ℕ
words_from words place n = tab (λ (m : ℕ). at words (place + m)) n

-- "A read tells a row's count and six words": a refused one tells nothing but its number and place
unfoldable pub row_told : Check → ℕ → List ℕ → Answer RowRead
row_told (Ok _) count words = Ok (record { count = count; words = words })
row_told (Err refusal) count words = Err refusal

unfoldable pub shared_row_answer : List ℕ → List ℕ → List ℕ → ℕ → ℕ → Answer RowRead
shared_row_answer s owners words who i = row_told (shared_row_check s owners (length words) who i) (row_at s i).vehicles (words_from words (6 * i) 6)

-- "or the 26 words after the rows"
unfoldable pub totals_told : Check → List ℕ → Answer (List ℕ)
totals_told (Ok _) words = Ok words
totals_told (Err refusal) words = Err refusal

unfoldable pub shared_totals_answer : List ℕ → List ℕ → List ℕ → ℕ → Answer (List ℕ)
shared_totals_answer s owners words who = totals_told (shared_totals_check s owners (length words) who) (words_from words (6 * rows_of s) 26)

-- What holds after a read.
pub record SharedRowCall (s owners words : List ℕ) (who i : ℕ) (r : Answer RowRead) : Type 0 where
  pub answer-is : r ≡ shared_row_answer s owners words who i
  pub says : Says (shared_row_demands s owners (length words) who i) (number_of r) (place_of r)

pub record SharedTotalsCall (s owners words : List ℕ) (who : ℕ) (r : Answer (List ℕ)) : Type 0 where
  pub answer-is : r ≡ shared_totals_answer s owners words who
  pub says : Says (shared_totals_demands s owners (length words) who) (number_of r) (place_of r)
