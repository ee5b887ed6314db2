-- Checks one after another, as `?` makes them, whatever they refuse by: one that refuses is the answer, and one that passes hands on.
-- Assumes nothing.
use Rattle.std.proofs.Common.{◌≡◌, Bool, true, false, ℕ, suc, zero, ◌+◌, ◌<◌, ◌≤◌, Result, Ok, Err, refl, sym, ◌∙◌, ap, arith}
use native.Mathlib.Decide.{dec_le}
use native.Mathlib.Nat.{le_antisymm}
use native.Mathlib.Numerals.{add-one}
use Rattle.std.specs.Prelude.{IsErr, IsErrAnd}
use Rattle.std.proofs.lemmas.Result.{err_from_is_err_and}
use Rattle.refusals.specs.declared.Refusal.{Refusal}
use Rattle.refusals.specs.declared.Rule.{Rule}
use Rattle.refusals.specs.Check.{Check, Pass, refuse, ◌then◌, each}

pub stops : {E : Type 0} (c d : Result (Unit {0}) E) (r : E) → c ≡ Err r → (c then d) ≡ Err r
unfolding ◌then◌
stops c d r h = rw h refl

pub hands_on : {E : Type 0} (c d : Result (Unit {0}) E) → c ≡ Ok tt → (c then d) ≡ d
unfolding ◌then◌
hands_on c d h = rw h refl

-- the same of an answer that the code has
pub go : {E : Type 0} (c d : Result (Unit {0}) E) {r x : Result (Unit {0}) E} → r ≡ c → r ≡ Ok tt → x ≡ d → x ≡ (c then d)
go c d e h t = t ∙ sym (hands_on c d (sym e ∙ h))

-- checks may be grouped
pub then-assoc : {E : Type 0} (b c d : Result (Unit {0}) E) → ((b then c) then d) ≡ (b then (c then d))
unfolding ◌then◌
then-assoc (Ok _) c d = refl
then-assoc (Err r) c d = refl

-- nothing after a check
pub then-pass-right : {E : Type 0} (c : Result (Unit {0}) E) → c ≡ (c then Ok tt)
unfolding ◌then◌
then-pass-right (Ok _) = refl
then-pass-right (Err r) = refl

-- a rule that does not apply passes
pub allowed : {b : Bool} (r : Rule) (p : ℕ) → b ≡ false → Pass ≡ refuse b r p
unfolding refuse
allowed r p h = rw h

-- what `?` returns of a refusal that it hands on as it is
pub handed : {T E : Type 0} (r : Result T E) (refusal : E) → IsErr r × IsErrAnd r (λ (e : E). e ≡ refusal) → r ≡ Err refusal
handed r refusal h = let (e, is, same) = err_from_is_err_and r h.1 in is ∙ ap Err same

-- a rule that passes does not apply
pub not_applied : (b : Bool) (r : Rule) (p : ℕ) {c : Check} → c ≡ refuse b r p → c ≡ Pass → b ≡ false
unfolding refuse
not_applied true r p k h = cc
not_applied false r p k h = refl

-- a rule that refuses applies, and the refusal is its own
pub applied : (b : Bool) (r : Rule) (p : ℕ) {c : Check} {e : Refusal} → c ≡ refuse b r p → c ≡ Err e
    → (b ≡ true) × (e ≡ record { rule = r; place = p })
unfolding refuse
applied true r p k h = (refl, cc)
applied false r p k h = (cc, cc)

-- Records one after another, as a `for` with `?` checks them.

-- no record, no refusal
pub each_none : {E : Type 0} (f : ℕ → Result (Unit {0}) E) → each f 0 ≡ Ok tt
unfolding each
each_none f = refl

-- one more record passes
pub each_more : {E : Type 0} (f : ℕ → Result (Unit {0}) E) (i : ℕ) {r : Result (Unit {0}) E} → each f i ≡ Ok tt → r ≡ f i → r ≡ Ok tt
    → each f (i + 1) ≡ Ok tt
unfolding each ◌then◌
each_more f i h e p = let q : f i ≡ Ok tt = sym e ∙ p in rw (add-one, h, q)

-- all records have passed
pub each_all : {E : Type 0} (f : ℕ → Result (Unit {0}) E) (i n : ℕ) → each f i ≡ Ok tt → i ≤ n → n ≤ i → Ok tt ≡ each f n
each_all f i n h l g = sym h ∙ ap (each f) (le_antisymm l g)

-- the first m records, then those behind them
pub each_append : {E : Type 0} (f : ℕ → Result (Unit {0}) E) (m n : ℕ) → each f (m + n) ≡ (each f m then each (λ (i : ℕ). f (m + i)) n)
unfolding each
each_append f m zero = let e : m + 0 ≡ m = omega arith in rw e (then-pass-right (each f m))
each_append f m (suc n) =
    let e : m + suc n ≡ suc (m + n) = omega arith in
    rw (e, each_append f m n) (then-assoc (each f m) (each (λ (i : ℕ). f (m + i)) n) (f (m + n)))

-- once a record refuses, that refusal is the answer for every larger number of records
pub each_stops : {E : Type 0} (f : ℕ → Result (Unit {0}) E) (i n : ℕ) (r : E) → each f i ≡ Ok tt → i < n → f i ≡ Err r → each f n ≡ Err r
unfolding each ◌then◌
each_stops f i zero r h l e = absurd (omega arith)
each_stops f i (suc n) r h l e =
    elim (dec_le n i) [
      | yes k ↦ let q : n ≡ i = omega arith in rw (q, h, e) refl
      | no k ↦ rw (each_stops f i n r h (omega arith) e) refl
    ]

-- for `using` on a function of checks
pub ruleset chained = (stops, hands_on, each_stops)
