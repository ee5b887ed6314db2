-- A ledger in use: it is opened by the report call, and then calls are made one after another, each on the bytes and words that the one
-- before it left. Every step is what the function's contract says of it. Definitions only.
use Rattle.std.specs.Prelude.{List, [], ◌∷◌, ◌≡◌, ℕ, ◌<◌}
use Rattle.refusals.specs.Check.{Check, Pass}
use Rattle.sheet.specs.Integers.{u8_at}
use Rattle.sheet.specs.Versions.{has_many_rows}
use Rattle.sheet.specs.Counts.{counts_of}
use Rattle.report_words.specs.Promise.{ReportPromise}
use Rattle.inventory.specs.ReportCall.{ReportCall}
use Rattle.ledger.specs.declared.Call.{Call}
use Rattle.ledger.specs.Machine.{machine}
use Rattle.ledger.specs.Ledger.{ChangeCall}
use Rattle.ledger.specs.Kept.{SameButCounts, machine_answers}

-- from bytes s and words w, by these calls with these answers, to bytes t and words u
pub data Made : List ℕ → List ℕ → List Call → List Check → List ℕ → List ℕ → Type 0 where
  none : {s w : List ℕ} → Made s w [] [] s w
  next : {s w s' w' t u : List ℕ} {call : Call} {calls : List Call} {r : Check} {answers : List Check}
      → ChangeCall s w call s' w' r → Made s' w' calls answers t u → Made s w (call ∷ calls) (r ∷ answers) t u

-- "from a freshly opened ledger": the report call on bytes s with words w passes and leaves `opened`, on which the calls are made
pub record Course (s w : List ℕ) (calls : List Call) (answers : List Check) (t u : List ℕ) : Type 0 where
  pub opened : List ℕ
  pub answer : Check
  pub opening : ReportCall s w opened answer
  pub accepted : answer ≡ Pass
  pub made : Made s opened calls answers t u

-- what then holds of the bytes t, the words u and the answers
pub record CourseKept (s w : List ℕ) (calls : List Call) (answers : List Check) (t u : List ℕ) : Type 0 where
  -- "the counts are that machine's", and all other bytes are the sheet's
  pub counts-are : counts_of t ≡ machine (has_many_rows s) calls (counts_of s)
  pub sheet-is : SameButCounts s t
  -- "and the report is word by word the one computed afresh from the sheet with those counts": a report call on t, with the words w that
  -- the ledger was opened in, passes and leaves just these words
  pub afresh : (words : List ℕ) (r : Check) → ReportCall t w words r → (r ≡ Pass) × (u ≡ words)
  pub promise : ReportPromise t u
  -- and each call was answered as the machine refuses it or not
  pub answers-are : answers ≡ machine_answers (has_many_rows s) calls (counts_of s)

-- "For every list of these calls from a freshly opened ledger"
abbrev pub CourseTheorem : Type 0
CourseTheorem = (s w : List ℕ) → ((k : ℕ) → u8_at s k < 256) → (calls : List Call) (answers : List Check) (t u : List ℕ)
    → Course s w calls answers t u → CourseKept s w calls answers t u
