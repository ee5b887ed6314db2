-- What one of the callers is told in the course of a list of calls, and on what it depends: the theorem of the shared ledger. Definitions only.
use Rattle.std.specs.Prelude.{true, false, List, [], ◌∷◌, ◌≡◌, ℕ, ◌+◌, ◌*◌, ◌≤◌, ◌<◌, eqb, length, Ok, Err}
use Rattle.numbers.specs.Lists.{at}
use Rattle.refusals.specs.Check.{Answer, Check, Pass}
use Rattle.exact.specs.Factors.{total}
use Rattle.sheet.specs.Limits.{vehicles_limit, fleet_limit}
use Rattle.sheet.specs.Integers.{u8_at}
use Rattle.sheet.specs.Bytes.{rows_of, cells_of, season_list, row_at}
use Rattle.sheet.specs.Counts.{counts_of}
use Rattle.report_words.specs.Report.{words_of, report}
use Rattle.ledger.specs.declared.Call.{Call}
use Rattle.ledger.specs.Ledger.{Ledger, after, opened, run}
use Rattle.ledger.specs.Kept.{Kept}
use Rattle.shared_ledger.specs.declared.RowRead.{RowRead}
use Rattle.shared_ledger.specs.Opening.{vehicles_each, vehicles_held, shared_check}
use Rattle.shared_ledger.specs.Calls.{owner_of, may_read, shared_change_check, words_from, row_told, shared_row_answer, totals_told}
use Rattle.shared_ledger.specs.Calls.{shared_totals_answer}

-- who asks, and for what
pub data Ask : Type 0 where
  change : ℕ → Call → Ask
  read_row : ℕ → ℕ → Ask
  read_totals : ℕ → Ask

unfoldable pub asker_of : Ask → ℕ
asker_of (change who call) = who
asker_of (read_row who i) = who
asker_of (read_totals who) = who

-- what a call returns
pub data Reply : Type 0 where
  of_change : Check → Reply
  of_row : Answer RowRead → Reply
  of_totals : Answer (List ℕ) → Reply

unfoldable pub reply : List ℕ → Ledger → Ask → Reply
reply owners x (change who call) = of_change (shared_change_check x.sheet owners (length x.words) who call)
reply owners x (read_row who i) = of_row (shared_row_answer x.sheet owners x.words who i)
reply owners x (read_totals who) = of_totals (shared_totals_answer x.sheet owners x.words who)

-- and what it leaves: a change that passes is the ledger's own call, all else leaves both buffers as they are
unfoldable pub leaves : Check → Ledger → Call → Ledger
leaves (Ok _) x call = after x call
leaves (Err refusal) x call = x

unfoldable pub after_ask : List ℕ → Ledger → Ask → Ledger
after_ask owners x (change who call) = leaves (shared_change_check x.sheet owners (length x.words) who call) x call
after_ask owners x (read_row who i) = x
after_ask owners x (read_totals who) = x

-- "what a participant is told": every answer to a call of their own, refusals too, in the course of a list of calls by anyone
unfoldable pub told : List ℕ → ℕ → List Ask → Ledger → List Reply
told owners who [] x = []
told owners who (ask ∷ asks) x =
    elim (eqb (asker_of ask) who) [
      | true ↦ reply owners x ask ∷ told owners who asks (after_ask owners x ask)
      | false ↦ told owners who asks (after_ask owners x ask)
    ]

-- "the calls they made"
unfoldable pub made_by : ℕ → List Ask → List Ask
made_by who [] = []
made_by who (ask ∷ asks) = elim (eqb (asker_of ask) who) [ true ↦ ask ∷ made_by who asks | false ↦ made_by who asks ]

-- "the sheet's seasons and parking, which rows are theirs, those rows as opened"
pub record SameTo (who : ℕ) (s owners t others : List ℕ) : Type 0 where
  pub parking-same : cells_of s ≡ cells_of t
  pub seasons-same : season_list s ≡ season_list t
  pub owns-same : (i : ℕ) → eqb (owner_of s owners i) who ≡ eqb (owner_of t others i) who
  pub rows_same : (i : ℕ) → eqb (owner_of s owners i) who ≡ true → row_at s i ≡ row_at t i

-- "For every list of calls from a fresh opening, what a participant is told depends on the sheet's seasons and parking, which rows are theirs,
-- those rows as opened and the calls they made, nothing else": two openings and two lists that agree on these tell them the same
abbrev pub IsolationTheorem : Type 0
IsolationTheorem = (who : ℕ) → 0 < who
    → (s owners w t others v : List ℕ) → ((k : ℕ) → u8_at s k < 256) → ((k : ℕ) → u8_at t k < 256)
    → shared_check s owners (length w) ≡ Pass → shared_check t others (length v) ≡ Pass → SameTo who s owners t others
    → (asks instead : List Ask) → made_by who asks ≡ made_by who instead
    → told owners who asks (opened s w) ≡ told others who instead (opened t v)

-- the ledger after a list of calls, and those changes among them that passed
unfoldable pub run_asks : List ℕ → List Ask → Ledger → Ledger
run_asks owners [] x = x
run_asks owners (ask ∷ asks) x = run_asks owners asks (after_ask owners x ask)

unfoldable pub if_passed : Check → Call → List Call → List Call
if_passed (Ok _) call calls = call ∷ calls
if_passed (Err refusal) call calls = calls

unfoldable pub passed : List ℕ → List Ask → Ledger → List Call
passed owners [] x = []
passed owners (change who call ∷ asks) x =
    if_passed (shared_change_check x.sheet owners (length x.words) who call) call (passed owners asks (after_ask owners x (change who call)))
passed owners (read_row who i ∷ asks) x = passed owners asks x
passed owners (read_totals who ∷ asks) x = passed owners asks x

-- What is read is the ledger's: after any calls the buffers are request Seven's ledger after the changes that passed, they would open again,
-- and whoever has the right is told the count that stands in the sheet and the words of a fresh report of it.
pub record SharedKept (s owners w : List ℕ) (asks : List Ask) (x : Ledger) : Type 0 where
  pub ledger-is : x ≡ run (passed owners asks (opened s w)) (opened s w)
  pub kept : Kept s w (passed owners asks (opened s w))
  pub opens : shared_check x.sheet owners (length x.words) ≡ Pass
  pub row_read : (who i : ℕ) → i < rows_of s → may_read s owners who i ≡ true
      → reply owners x (read_row who i) ≡ of_row (row_told Pass (at (counts_of x.sheet) i) (words_of x.sheet i))
  pub totals-read : reply owners x (read_totals 0) ≡ of_totals (totals_told Pass (words_from (report x.sheet) (6 * rows_of s) 26))
  -- "Every participant has at most .. 10,000,000 vehicles",
  pub vehicles-most : (who : ℕ) → vehicles_held x.sheet owners who (rows_of x.sheet) ≤ vehicles_each
  -- "so the common vehicle limit cannot refuse anyone": an arrival that number 16's limit lets pass is within number 26's
  pub fleet-free : (row k : ℕ) → at (counts_of x.sheet) row + k ≤ vehicles_limit → total (counts_of x.sheet) + k ≤ fleet_limit

abbrev pub SharedTheorem : Type 0
SharedTheorem = (s owners w : List ℕ) → ((k : ℕ) → u8_at s k < 256) → shared_check s owners (length w) ≡ Pass
    → (asks : List Ask) → SharedKept s owners w asks (run_asks owners asks (opened s w))
