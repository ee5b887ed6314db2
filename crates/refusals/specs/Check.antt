-- How checks are put together: "The first that applies, in table and file order, is returned with its place and nothing else."
-- Definitions only.
use Rattle.std.specs.Prelude.{Bool, true, false, ℕ, suc, zero, Result, Ok, Err}
use Rattle.refusals.specs.declared.Refusal.{Refusal}
use Rattle.refusals.specs.declared.Rule.{Rule}
use Rattle.refusals.specs.Rule.{number}

-- what a call answers: a value, or why it is refused
abbrev pub Answer : Type 0 → Type 0
Answer A = Result A Refusal

-- what a check answers: it passes, or it refuses by a rule with a place
abbrev pub Check : Type 0
Check = Answer (Unit {0})

abbrev pub Pass : Check
Pass = Ok tt

abbrev pub Refused : Rule → ℕ → Check
Refused r p = Err (record { rule = r; place = p })

-- a rule applies where its condition holds
unfoldable pub refuse : Bool → Rule → ℕ → Check
refuse true rule place = Refused rule place
refuse false rule place = Pass

-- the first of two that applies, whatever it refuses by
infixr 5 ◌then◌
unfoldable pub ◌then◌ : {E : Type 0} → Result (Unit {0}) E → Result (Unit {0}) E → Result (Unit {0}) E
Ok _ then later = later
Err refusal then later = Err refusal

-- the first that applies of records 0, 1, .. n − 1
unfoldable pub each : {E : Type 0} → (ℕ → Result (Unit {0}) E) → ℕ → Result (Unit {0}) E
each check zero = Ok tt
each check (suc n) = each check n then check n

-- "a definition gives this paper's number and values for each of the enum's cases": an answer's number and place, where number 0
-- stands for an accepted sheet
unfoldable pub number_of : {A : Type 0} → Answer A → ℕ
number_of (Ok _) = 0
number_of (Err refusal) = number refusal.rule

unfoldable pub place_of : {A : Type 0} → Answer A → ℕ
place_of (Ok _) = 0
place_of (Err refusal) = refusal.place
