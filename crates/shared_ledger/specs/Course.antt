-- A shared ledger in use: it is opened, and then anyone makes calls, one after another, each on the bytes and words that the one before it
-- left. Every step is what the function's contract says of it. Definitions only.
use Rattle.std.specs.Prelude.{true, false, List, [], ◌∷◌, ◌≡◌, ℕ, ◌<◌, eqb}
use Rattle.refusals.specs.Check.{Answer, Check, Pass}
use Rattle.sheet.specs.Integers.{u8_at}
use Rattle.ledger.specs.declared.Call.{Call}
use Rattle.shared_ledger.specs.declared.RowRead.{RowRead}
use Rattle.shared_ledger.specs.Opening.{OpenCall}
use Rattle.shared_ledger.specs.Calls.{SharedChangeCall, SharedRowCall, SharedTotalsCall}
use Rattle.shared_ledger.specs.Told.{Ask, change, read_row, read_totals, asker_of, Reply, of_change, of_row, of_totals, made_by, SameTo, SharedKept}

-- from bytes s and words w, by these calls with these replies, to bytes t and words u; a read leaves both as they are
pub data Made (owners : List ℕ) : List ℕ → List ℕ → List Ask → List Reply → List ℕ → List ℕ → Type 0 where
  none : {s w : List ℕ} → Made owners s w [] [] s w
  changed : {s w s' w' t u : List ℕ} {who : ℕ} {call : Call} {r : Check} {asks : List Ask} {replies : List Reply}
      → SharedChangeCall s owners w who call s' w' r → Made owners s' w' asks replies t u
      → Made owners s w (change who call ∷ asks) (of_change r ∷ replies) t u
  row_read : {s w t u : List ℕ} {who i : ℕ} {r : Answer RowRead} {asks : List Ask} {replies : List Reply}
      → SharedRowCall s owners w who i r → Made owners s w asks replies t u
      → Made owners s w (read_row who i ∷ asks) (of_row r ∷ replies) t u
  totals_read : {s w t u : List ℕ} {who : ℕ} {r : Answer (List ℕ)} {asks : List Ask} {replies : List Reply}
      → SharedTotalsCall s owners w who r → Made owners s w asks replies t u
      → Made owners s w (read_totals who ∷ asks) (of_totals r ∷ replies) t u

-- "from a fresh opening": the opening passes and leaves the words `opened`, on which the calls are made
pub record Course (s owners w : List ℕ) (asks : List Ask) (replies : List Reply) (t u : List ℕ) : Type 0 where
  pub opened : List ℕ
  pub answer : Check
  pub opening : OpenCall s owners w opened answer
  pub accepted : answer ≡ Pass
  pub made : Made owners s opened asks replies t u

-- "what a participant is told": the replies to their own calls
unfoldable pub replies_to : ℕ → List Ask → List Reply → List Reply
replies_to who [] replies = []
replies_to who (ask ∷ asks) [] = []
replies_to who (ask ∷ asks) (r ∷ replies) =
    elim (eqb (asker_of ask) who) [ true ↦ r ∷ replies_to who asks replies | false ↦ replies_to who asks replies ]

-- "what a participant is told depends on the sheet's seasons and parking, which rows are theirs, those rows as opened and the calls they
-- made, nothing else": in any two courses that agree on these they are told the same
abbrev pub IsolatedTheorem : Type 0
IsolatedTheorem = (who : ℕ) → 0 < who
    → (s owners w t others v : List ℕ) → ((k : ℕ) → u8_at s k < 256) → ((k : ℕ) → u8_at t k < 256) → SameTo who s owners t others
    → (asks instead : List Ask) (replies answers : List Reply) (s' w' t' v' : List ℕ)
    → Course s owners w asks replies s' w' → Course t others v instead answers t' v'
    → made_by who asks ≡ made_by who instead
    → replies_to who asks replies ≡ replies_to who instead answers

-- and the bytes and words that a course leaves are the ledger of `SharedKept`
abbrev pub CourseTheorem : Type 0
CourseTheorem = (s owners w : List ℕ) → ((k : ℕ) → u8_at s k < 256) → (asks : List Ask) (replies : List Reply) (t u : List ℕ)
    → Course s owners w asks replies t u → SharedKept s owners w asks (record { sheet = t; words = u })
