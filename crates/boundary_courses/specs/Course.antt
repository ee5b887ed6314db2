-- Request Seven for a program in another language: a ledger is opened by `evp_report`, and then `evp_arrive` and `evp_depart` are called one
-- after another, each on the bytes and words that the one before it left. Every step is what the contract of the C function says. Definitions only.
use Rattle.std.specs.Prelude.{List, [], ◌∷◌, map, ◌≡◌, ℕ, ◌<◌}
use Rattle.sheet.specs.Integers.{u8_at}
use Rattle.sheet.specs.Versions.{has_many_rows}
use Rattle.sheet.specs.Counts.{counts_of}
use Rattle.report_words.specs.Promise.{ReportPromise}
use Rattle.ledger.specs.declared.Call.{Call}
use Rattle.ledger.specs.Machine.{machine}
use Rattle.ledger.specs.Kept.{SameButCounts, machine_answers}
use Rattle.boundary.specs.declared.EvpCheck.{EvpCheck}
use Rattle.boundary.specs.Export.{check_numbers, ReportNumbers}
use Rattle.boundary.specs.Change.{ChangeNumbers}

-- from bytes s and words w, by these calls with these answers, to bytes t and words u
pub data Made : List ℕ → List ℕ → List Call → List EvpCheck → List ℕ → List ℕ → Type 0 where
  none : {s w : List ℕ} → Made s w [] [] s w
  next : {s w s' w' t u : List ℕ} {call : Call} {calls : List Call} {r : EvpCheck} {answers : List EvpCheck}
      → ChangeNumbers s w call s' w' r → Made s' w' calls answers t u → Made s w (call ∷ calls) (r ∷ answers) t u

-- "from a freshly opened ledger": `evp_report` on bytes s with words w returns number 0 and leaves `opened`, on which the calls are made
pub record Course (s w : List ℕ) (calls : List Call) (answers : List EvpCheck) (t u : List ℕ) : Type 0 where
  pub opened : List ℕ
  pub answer : EvpCheck
  pub opening : ReportNumbers s w opened answer
  pub accepted : answer.number ≡ 0
  pub made : Made s opened calls answers t u

-- what then holds of the bytes t, the words u and the answers
pub record CourseKept (s w : List ℕ) (calls : List Call) (answers : List EvpCheck) (t u : List ℕ) : Type 0 where
  -- "the counts are that machine's", and all other bytes are the sheet's
  pub counts-are : counts_of t ≡ machine (has_many_rows s) calls (counts_of s)
  pub sheet-is : SameButCounts s t
  -- "and the report is word by word the one computed afresh from the sheet with those counts": `evp_report` on t, with the words w that the
  -- ledger was opened in, returns number 0 and leaves just these words
  pub afresh : (words : List ℕ) (r : EvpCheck) → ReportNumbers t w words r → (r.number ≡ 0) × (u ≡ words)
  pub promise : ReportPromise t u
  -- and each call returned 0 or 29 as the machine has it
  pub answers-are : answers ≡ map check_numbers (machine_answers (has_many_rows s) calls (counts_of s))

-- "For every list of these calls from a freshly opened ledger"
abbrev pub CourseTheorem : Type 0
CourseTheorem = (s w : List ℕ) → ((k : ℕ) → u8_at s k < 256) → (calls : List Call) (answers : List EvpCheck) (t u : List ℕ)
    → Course s w calls answers t u → CourseKept s w calls answers t u
