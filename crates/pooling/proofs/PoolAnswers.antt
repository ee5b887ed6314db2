-- What pooling answers: the first sheet's checks, then the second's, then those of the two together, each with its number and place; and what
-- is known where they pass.
-- Assumes nothing.
use Rattle.std.proofs.Common.{Ok, Err, MatchResult, IsErrAnd}
use mathlib.Core.Bool.{Bool, true, false}
use mathlib.Core.List.{List}
use mathlib.Core.Path.{◌≡◌, refl, sym, ap, ◌∙◌}
use Prim.Native.Nat.{ℕ, suc, zero, ◌+◌, ◌*◌, ◌≤◌, ◌<◌}
use native.Mathlib.Omega.{arith}
use lib.Dec.{ltb}
use lib.ListN.{length}
use Rattle.refusals.specs.declared.Rule.{Rule}
use Rattle.refusals.specs.declared.Rule.TheVariants as rule
use Rattle.refusals.specs.declared.Refusal.{Refusal}
use Rattle.refusals.specs.Check.{Check, Pass, Refused, refuse, ◌then◌}
use Rattle.sheet.specs.Integers.{u8_at}
use Rattle.sheet.specs.Bytes.{seasons_of, rows_of}
use Rattle.sheet.specs.Sheet.{sheet_check}
use Rattle.sheet.proofs.Checks.{Tests, Judges, then-pass, below_suc, tests-as, ||-tests, not-tests, eqb-shows}
use Rattle.sheet.proofs.Checks.{ltb-tests, true-is-not-false, judges-refuse, judges-then, ◌⊳◌}
use Rattle.sheet.proofs.Conditions.{mark-judged, sheet-judged, met-accepted}
use Rattle.pooling.specs.declared.PoolRefusal.{PoolRefusal}
use Rattle.pooling.specs.declared.PoolRefusal.TheVariants.{First, Second, Pooled}
use Rattle.pooling.specs.Pool.{pool, region_check, shared_bytes, some_differs, differ, pair_check, pool_check}
use Rattle.pooling.specs.PoolCall.{PoolAnswer, Accepted, pool_answered, pool_answer, refusal_of}
use Rattle.pooling.specs.PoolCall.{check_of, region_demands, Agree, pair_demands, PoolSays}
use Rattle.pooling.specs.Late.{late_check}
use Rattle.pooling.proofs.PoolBytes.{Region, Pair, pool-long}
use Rattle.pooling.proofs.PoolChecks.{pooled-check}

-- Demands in plain arithmetic: one sheet,
region-judged : (s : List ℕ) → Judges (region_check s) (region_demands s)
unfolding region_check
region-judged s = judges-then (mark-judged s) (not-tests (eqb-shows _ _) ⊳ sheet-judged s)

-- the parking and the seasons,
some_tests : (a b : List ℕ) (n : ℕ) → Tests (some_differs a b n) ((k : ℕ) → k < n → u8_at a (8 + k) ≡ u8_at b (8 + k))
unfolding some_differs
some_tests a b zero = record { holds = λ _ k l. absurd (omega arith); fails = λ e. absurd (true-is-not-false (sym e)) }
some_tests a b (suc n) =
    tests-as (λ (before, last). below_suc {P = λ (k : ℕ). u8_at a (8 + k) ≡ u8_at b (8 + k)} before last)
    (λ f. ((λ k l. f k (omega arith)), f n (omega arith)))
    (||-tests (some_tests a b n) (not-tests (eqb-shows _ _)))

pub differ-tests : (a b : List ℕ) → Tests (differ a b) (Agree a b)
unfolding differ
differ-tests a b = ||-tests (not-tests (eqb-shows _ _)) (some_tests a b (shared_bytes (seasons_of a)))

-- and the two together.
pair-judged : (a b : List ℕ) (room : ℕ) → Judges (pair_check a b room) (pair_demands a b room)
unfolding pair_check
pair-judged a b room = differ-tests a b ⊳ judges-then (sheet-judged (pool a b)) (judges-refuse (ltb-tests room (length (pool a b))))

-- the answer's number and place are those of the first check that applies
answered-check : (first second together : Check) → check_of (pool_answered first second together) ≡ (first then second then together)
unfolding check_of refusal_of pool_answered ◌then◌
answered-check (Err refusal) second together = refl
answered-check (Ok _) (Err refusal) together = refl
answered-check (Ok _) (Ok _) (Err refusal) = refl
answered-check (Ok _) (Ok _) (Ok _) = refl

pub answer-check : (a b : List ℕ) (room : ℕ) → check_of (pool_answer a b room) ≡ pool_check a b room
unfolding pool_answer pool_check
answer-check a b room = answered-check _ _ _

-- Three checks one after another, each with its name for a refusal: the first that refuses is the answer.
unfoldable pub named : (Refusal → PoolRefusal) → Check → PoolAnswer
named f (Ok _) = Accepted
named f (Err refusal) = Err (f refusal)

pub named-is : (f : Refusal → PoolRefusal) (c : Check) (r : PoolAnswer) → MatchResult c (λ x. r ≡ Ok x) (λ e. IsErrAnd r (λ y. y ≡ f e))
    → r ≡ named f c
unfolding named
named-is f (Ok _) r h = h
named-is f (Err refusal) (Ok _) h = absurd h
named-is f (Err refusal) (Err y) h = ap Err h

unfoldable pub in-turn : PoolAnswer → PoolAnswer → PoolAnswer → PoolAnswer
in-turn (Err x) second together = Err x
in-turn (Ok _) (Err x) together = Err x
in-turn (Ok _) (Ok _) together = together

answered-in-turn : (c d e : Check) → pool_answered c d e ≡ in-turn (named First c) (named Second d) (named Pooled e)
unfolding pool_answered named in-turn
answered-in-turn (Err refusal) d e = refl
answered-in-turn (Ok _) (Err refusal) e = refl
answered-in-turn (Ok _) (Ok _) (Err refusal) = refl
answered-in-turn (Ok _) (Ok _) (Ok _) = refl

pub answer-in-turn : (a b : List ℕ) (room : ℕ) {first second together : PoolAnswer} → first ≡ named First (region_check a)
    → second ≡ named Second (region_check b) → together ≡ named Pooled (pair_check a b room) → in-turn first second together ≡ pool_answer a b room
unfolding pool_answer
answer-in-turn a b room e f g = rw (e, f, g) (sym (answered-in-turn (region_check a) (region_check b) (pair_check a b room)))

-- a check that is named so has passed
pub named-passes : (f : Refusal → PoolRefusal) (c : Check) {r : PoolAnswer} → r ≡ named f c → r ≡ Accepted → c ≡ Pass
unfolding named
named-passes f (Ok _) e h = refl
named-passes f (Err refusal) e h = absurd (let wrong : ◌≡◌ {A = PoolAnswer} (Err (f refusal)) Accepted = sym e ∙ h in cc wrong)

-- and it says of which sheet
told : (a b : List ℕ) (room : ℕ) (c d e : Check) → region_check a ≡ c → region_check b ≡ d → pair_check a b room ≡ e
    → PoolSays a b room (pool_answered c d e)
unfolding pool_answered
told a b room (Err refusal) d e p q r = (region-judged a).refuses refusal.rule refusal.place p
told a b room (Ok _) (Err refusal) e p q r = ((region-judged a).passes p, (region-judged b).refuses refusal.rule refusal.place q)
told a b room (Ok _) (Ok _) (Err refusal) p q r =
    ((region-judged a).passes p, (region-judged b).passes q, (pair-judged a b room).refuses refusal.rule refusal.place r)
told a b room (Ok _) (Ok _) (Ok _) p q r = ((region-judged a).passes p, (region-judged b).passes q, (pair-judged a b room).passes r)

pub answer-says : (a b : List ℕ) (room : ℕ) → PoolSays a b room (pool_answer a b room)
unfolding pool_answer
answer-says a b room = told a b room (region_check a) (region_check b) (pair_check a b room) refl refl refl

-- What is known where checks pass: of one sheet,
pub region : (s : List ℕ) → region_check s ≡ Pass → Region s
unfolding region_check
region s h =
    let (mark, rest) = then-pass _ _ h in
    let (version, sheet) = then-pass _ _ rest in
    record { version = ((region-judged s).passes h).1.0; passed = sheet }

-- of two that agree,
pair : (a b : List ℕ) → region_check a ≡ Pass → region_check b ≡ Pass → differ a b ≡ false → Pair a b
pair a b p q d = record { first = region a p; second = region b q; agree = (differ-tests a b).holds d }

-- and of all: both sheets, that they agree, their pool and the room.
pub regions : (a b : List ℕ) (room : ℕ) → pool_check a b room ≡ Pass → (region_check a ≡ Pass) × (region_check b ≡ Pass)
unfolding pool_check
regions a b room h = let (first, rest) = then-pass _ _ h in (first, (then-pass _ _ rest).0)

pub record Poolable (a b : List ℕ) (room : ℕ) : Type 0 where
  pub both : Pair a b
  pub accepted : sheet_check (pool a b) ≡ Pass
  pub fits : length (pool a b) ≤ room

pub poolable : (a b : List ℕ) (room : ℕ) → pool_check a b room ≡ Pass → Poolable a b room
unfolding pool_check
poolable a b room h =
    let (first, rest) = then-pass _ _ h in
    let (second, together) = then-pass _ _ rest in
    let (agree, (accepted, fits)) = (pair-judged a b room).passes together in
    record {
      both = record { first = region a first; second = region b second; agree = agree };
      accepted = met-accepted (pool a b) accepted;
      fits = fits;
    }

-- Of two sheets that pass, the checks together are these four numbers.
after : (d : Bool) (r : Rule) (place : ℕ) {c e : Check} → (d ≡ false → c ≡ e) → (refuse d r place then c) ≡ (refuse d r place then e)
unfolding refuse ◌then◌
after true r place f = refl
after false r place f = f refl

pub late : (a b : List ℕ) (room : ℕ) → region_check a ≡ Pass → region_check b ≡ Pass
    → pair_check a b room ≡ (refuse (differ a b) rule.Differ 0 then late_check a b then refuse (ltb room (length a + 24 * rows_of b)) rule.Room 0)
unfolding pair_check
late a b room p q = after (differ a b) rule.Differ 0 (λ d. let both = pair a b p q d in rw (pooled-check both, pool-long a both.second))
