-- Lines one after another, as `?` makes them: what is said of checks, and lines that find nothing.
-- Assumes nothing.
use Prim.Native.Nat.{ℕ, suc, zero, ◌+◌, ◌*◌, ◌-◌, ◌/◌, ◌≤◌, ◌<◌}
use mathlib.Core.Bool.{Bool, true, false}
use mathlib.Core.Path.{◌≡◌, refl}
use native.Mathlib.Omega.{arith}
use borrow.Author.Tests.{le-ltb}
use Rattle.std.proofs.Common.{Ok, Err}
use Rattle.refusals.specs.Check.{◌then◌, each}
use Rattle.refusals.proofs.Chain.{each_stops}
pub use Rattle.refusals.proofs.Chain.{stops, hands_on, each_none, each_more}
use Rattle.sheet.specs.Sheet.{outside}
use Rattle.findings.specs.declared.Finding.{Finding}
use Rattle.findings.specs.declared.Site.{Site}
use Rattle.findings.specs.declared.reasons.Reason.{Reason}
use Rattle.findings.specs.declared.Field.{Field}
use Rattle.findings.specs.declared.Limits.{Limits}
use Rattle.findings.specs.Canisters.{largest_for}
use Rattle.findings.specs.Lines.{nothing, Judged, none_found, finding_in, field, limits, chosen, line, ◌or_else◌, each_finding}

-- lines behind which nothing is found
pub ends : (f g : Judged) → g ≡ none_found → (f or_else g) ≡ f
unfolding ◌then◌
ends (Ok _) g h = h
ends (Err _) g h = refl

-- a line that does not apply finds nothing, and neither does one whose number is at most the limit
pub skipped : {a : Bool} (w : Site) (r : Reason) (f : Field) (l : Limits) → a ≡ false → line a w r f l ≡ none_found
unfolding line chosen
skipped w r f l h = rw h refl

pub at_most : (a : Bool) (w : Site) (r : Reason) (p n v most : ℕ) → v ≤ most → line a w r (field p n v) (limits 0 most) ≡ none_found
unfolding line chosen outside
at_most true w r p n v most h = rw (le-ltb v 0 (omega arith), le-ltb most v h) refl
at_most false w r p n v most h = refl

-- One of two, by a test.

pub takes_first : {b : Bool} (f g : Judged) → b ≡ true → chosen b f g ≡ f
unfolding chosen
takes_first f g h = rw h refl

pub takes_second : {b : Bool} (f g : Judged) → b ≡ false → chosen b f g ≡ g
unfolding chosen
takes_second f g h = rw h refl

pub ruleset by_choice = (takes_first, takes_second)

-- for `using` on a function that goes through lines
pub ruleset in_order = (stops, hands_on, ends, skipped, at_most, each_stops, each_none, each_more)

-- What holds of the finding.
pub record Finds (P : Finding → Type 0) (f : Judged) : Type 0 where
  pub is : P (finding_in f)

-- what holds of the finding of each line holds of the one that is chosen, and of the first
module _ {P : Finding → Type 0} where
  pub one_of : (b : Bool) {f g : Judged} → Finds P f → Finds P g → Finds P (chosen b f g)
  unfolding chosen
  one_of true p q = p
  one_of false p q = q

  first_of : (f : Judged) {g : Judged} → Finds P f → Finds P g → Finds P (f or_else g)
  unfolding ◌then◌
  first_of (Ok _) p q = q
  first_of (Err _) p q = p

  infixr 5 ◌or◌
  pub ◌or◌ : {f g : Judged} → Finds P f → Finds P g → Finds P (f or_else g)
  ◌or◌ {f = f} p q = first_of f p q

  pub first_of_all : P nothing → (find : ℕ → Judged) → ((i : ℕ) → Finds P (find i)) → (n : ℕ) → Finds P (each_finding find n)
  unfolding each
  first_of_all none find h zero = record { is = none }
  first_of_all none find h (suc n) = first_of_all none find h n or h n

-- The largest m_sat of a season with a canister.
pub largest-for : (limit vp h k : ℕ) → 0 < k
    → (limit * 20000000 + 2000 * (129500 + 15 * vp) - 130000 * h) / ((112000 + 10 * h - 15 * vp) * k) ≡ largest_for limit vp h k
unfolding largest_for
largest-for limit vp h zero p = absurd (omega arith)
largest-for limit vp h (suc k) p = refl
