-- The theorem of the ledger: "For every list of these calls from a freshly opened ledger, the counts are that machine's, and the report is word
-- by word the one computed afresh from the sheet with those counts." Definitions only.
use Rattle.std.specs.Prelude.{Bool, List, [], ◌∷◌, map, ◌⊎◌, ◌≡◌, ℕ, ◌+◌, ◌≤◌, ◌<◌, length}
use Rattle.refusals.specs.declared.Rule.{Rule}
use Rattle.refusals.specs.declared.Rule.TheVariants as rule
use Rattle.refusals.specs.Check.{Check, Pass, Refused, refuse}
use Rattle.sheet.specs.Integers.{u8_at}
use Rattle.sheet.specs.Versions.{has_many_rows}
use Rattle.sheet.specs.Bytes.{rows_of, row_place}
use Rattle.sheet.specs.Counts.{counts_of}
use Rattle.report_words.specs.Report.{report}
use Rattle.report_words.specs.Promise.{ReportPromise}
use Rattle.inventory.specs.ReportCall.{written}
use Rattle.inventory.specs.ReportAnswers.{report_check}
use Rattle.ledger.specs.declared.Call.{Call}
use Rattle.ledger.specs.Machine.{wrong, step, machine}
use Rattle.ledger.specs.Ledger.{Ledger, opened, run, answers}

-- t is s but for the counts of its rows: every byte that is none of the four of a row's vehicles is the same
pub record SameButCounts (s t : List ℕ) : Type 0 where
  pub length-same : length t ≡ length s
  pub elsewhere : (k : ℕ) → ((i : ℕ) → i < rows_of s → (k < row_place s i + 8) ⊎ (row_place s i + 12 ≤ k)) → u8_at t k ≡ u8_at s k

-- what the machine's calls are answered: 29 where the machine refuses
unfoldable pub machine_answers : Bool → List Call → List ℕ → List Check
machine_answers many [] counts = []
machine_answers many (call ∷ calls) counts = refuse (wrong many counts call) rule.Count 0 ∷ machine_answers many calls (step many counts call)

-- after these calls on the ledger of s, opened in the words w
pub record Kept (s w : List ℕ) (calls : List Call) : Type 0 where
  pub counts-are : counts_of (run calls (opened s w)).sheet ≡ machine (has_many_rows s) calls (counts_of s)
  pub sheet-is : SameButCounts s (run calls (opened s w)).sheet
  -- a fresh report of this sheet is accepted, and in these words leaves them as they are
  pub opens : report_check (run calls (opened s w)).sheet (length w) ≡ Pass
  pub words_are : (run calls (opened s w)).words ≡ written Pass (report (run calls (opened s w)).sheet) w
  -- so all that is promised of a report holds of the words
  pub promise : ReportPromise (run calls (opened s w)).sheet (run calls (opened s w)).words
  pub answers-are : answers calls (opened s w) ≡ machine_answers (has_many_rows s) calls (counts_of s)

-- every list of calls, from every byte string that opens
abbrev pub LedgerTheorem : Type 0
LedgerTheorem = (s w : List ℕ) → ((k : ℕ) → u8_at s k < 256) → report_check s (length w) ≡ Pass → (calls : List Call) → Kept s w calls

-- and what opening would refuse stays as it is, each call being refused alike; words that are not the report of the sheet are not noticed
abbrev pub RefusedTheorem : Type 0
RefusedTheorem = (x : Ledger) (r : Rule) (place : ℕ) → report_check x.sheet (length x.words) ≡ Refused r place
    → (calls : List Call) → (run calls x ≡ x) × (answers calls x ≡ map (λ (call : Call). Refused r place) calls)
