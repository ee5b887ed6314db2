-- Need not be believed: what a conversion that may refuse gives.
use Rattle.std.specs.Prelude.{Option, Some, None, MatchResult, ◌≡◌}
use Rattle.refusals.specs.declared.Refusal.{Refusal}
use Rattle.refusals.specs.Check.{Answer}

-- the value whose view the definition has, or this refusal where it has none
abbrev pub Taken : {A B : Type 0} → (A → B) → Refusal → Option B → Answer A → Type 0
Taken view refusal o r = MatchResult r (λ v. o ≡ Some (view v)) (λ e. (o ≡ None) × (e ≡ refusal))
