-- Request Eight for a program in another language: a shared ledger is opened by `evp_shared_open`, and then anyone calls `evp_shared_arrive`,
-- `evp_shared_depart`, `evp_shared_row` and `evp_shared_totals`, one after another, each on the bytes and words that the one before it left. Every
-- step is what the contract of the C function says. Definitions only.
use Rattle.std.specs.Prelude.{true, false, List, [], ◌∷◌, ◌≡◌, ℕ, ◌*◌, ◌<◌, eqb}
use Rattle.numbers.specs.Lists.{at}
use Rattle.sheet.specs.Integers.{u8_at}
use Rattle.sheet.specs.Bytes.{rows_of}
use Rattle.sheet.specs.Counts.{counts_of}
use Rattle.report_words.specs.Report.{words_of, report}
use Rattle.ledger.specs.declared.Call.{Call}
use Rattle.shared_ledger.specs.Calls.{may_read, words_from}
use Rattle.shared_ledger.specs.Told.{Ask, change, read_row, read_totals, asker_of, made_by, SameTo, SharedKept}
use Rattle.boundary.specs.declared.EvpCheck.{EvpCheck}
use Rattle.boundary.specs.declared.EvpRow.{EvpRow}
use Rattle.boundary.specs.declared.EvpTotals.{EvpTotals}
use Rattle.boundary.specs.Shared.{OpenNumbers, SharedNumbers, RowNumbers, TotalsNumbers}

-- what a C call returns, every number of it
pub data Reply : Type 0 where
  of_change : EvpCheck → Reply
  of_row : EvpRow → Reply
  of_totals : EvpTotals → Reply

-- from bytes s and words w, by these calls with these replies, to bytes t and words u; a read leaves both as they are
pub data Made (owners : List ℕ) : List ℕ → List ℕ → List Ask → List Reply → List ℕ → List ℕ → Type 0 where
  none : {s w : List ℕ} → Made owners s w [] [] s w
  changed : {s w s' w' t u : List ℕ} {who : ℕ} {call : Call} {r : EvpCheck} {asks : List Ask} {replies : List Reply}
      → SharedNumbers s owners w who call s' w' r → Made owners s' w' asks replies t u
      → Made owners s w (change who call ∷ asks) (of_change r ∷ replies) t u
  row_read : {s w t u : List ℕ} {who i : ℕ} {r : EvpRow} {asks : List Ask} {replies : List Reply}
      → RowNumbers s owners w who i r → Made owners s w asks replies t u
      → Made owners s w (read_row who i ∷ asks) (of_row r ∷ replies) t u
  totals_read : {s w t u : List ℕ} {who : ℕ} {r : EvpTotals} {asks : List Ask} {replies : List Reply}
      → TotalsNumbers s owners w who r → Made owners s w asks replies t u
      → Made owners s w (read_totals who ∷ asks) (of_totals r ∷ replies) t u

-- "from a fresh opening": `evp_shared_open` returns number 0 and leaves the words `opened`, on which the calls are made
pub record Course (s owners w : List ℕ) (asks : List Ask) (replies : List Reply) (t u : List ℕ) : Type 0 where
  pub opened : List ℕ
  pub answer : EvpCheck
  pub opening : OpenNumbers s owners w opened answer
  pub accepted : answer.number ≡ 0
  pub made : Made owners s opened asks replies t u

-- "what a participant is told": what their own calls returned, refusals too
unfoldable pub replies_to : ℕ → List Ask → List Reply → List Reply
replies_to who [] replies = []
replies_to who (ask ∷ asks) [] = []
replies_to who (ask ∷ asks) (r ∷ replies) =
    elim (eqb (asker_of ask) who) [ true ↦ r ∷ replies_to who asks replies | false ↦ replies_to who asks replies ]

-- "what a participant is told depends on the sheet's seasons and parking, which rows are theirs, those rows as opened and the calls they
-- made, nothing else": in any two courses that agree on these their calls returned the same numbers
abbrev pub IsolatedTheorem : Type 0
IsolatedTheorem = (who : ℕ) → 0 < who
    → (s owners w t others v : List ℕ) → ((k : ℕ) → u8_at s k < 256) → ((k : ℕ) → u8_at t k < 256) → SameTo who s owners t others
    → (asks instead : List Ask) (replies answers : List Reply) (s' w' t' v' : List ℕ)
    → Course s owners w asks replies s' w' → Course t others v instead answers t' v'
    → made_by who asks ≡ made_by who instead
    → replies_to who asks replies ≡ replies_to who instead answers

-- What a course leaves is the ledger of `SharedKept`; and "A read tells a row's count and six words, or the 26 words after the rows": of a fresh
-- report of the sheet as it then is, for whoever has the right.
pub record CourseKept (s owners w : List ℕ) (asks : List Ask) (t u : List ℕ) : Type 0 where
  pub kept : SharedKept s owners w asks (record { sheet = t; words = u })
  pub row_read : (who i : ℕ) (r : EvpRow) → i < rows_of s → may_read s owners who i ≡ true → RowNumbers t owners u who i r
      → r ≡ record { number = 0; place = 0; count = at (counts_of t) i; words = words_of t i }
  pub totals-read : (r : EvpTotals) → TotalsNumbers t owners u 0 r
      → r ≡ record { number = 0; place = 0; words = words_from (report t) (6 * rows_of s) 26 }

abbrev pub CourseTheorem : Type 0
CourseTheorem = (s owners w : List ℕ) → ((k : ℕ) → u8_at s k < 256) → (asks : List Ask) (replies : List Reply) (t u : List ℕ)
    → Course s owners w asks replies t u → CourseKept s owners w asks t u
