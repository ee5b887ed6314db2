-- What a chain of checks says of a sheet: where it passes every demand is met, and where it refuses, the first demand that is
-- not met gives the number and the place.
-- Assumes nothing.
use mathlib.Core.Bool.{Bool, true, false, not, ◌&&◌, ◌||◌}
use mathlib.Core.Logic.{◌⊎◌, inl, inr, ⊎_elim}
use mathlib.Core.List.{List, [], ◌∷◌, ◌++◌}
use mathlib.Core.Path.{◌≡◌, refl, sym, ap, ◌∙◌}
use Prim.Native.Nat.{ℕ, suc, zero, ◌≤◌, ◌<◌}
use native.Mathlib.Decide.{dec_le, ℕ_discrete}
use native.Mathlib.Omega.{arith}
use borrow.Author.Tests.{ltb-true, ltb-false, leb-true, leb-false, eqb-true, eqb-false, eq-eqb, ne_eqb, not-true, not-false}
use lib.Dec.{leb, ltb, eqb}
use Rattle.numbers.specs.Fraction.{Fraction, ◌≤ᶠ◌, ◌≤?◌}
use Rattle.numbers.proofs.Order.{test-cases}
use Rattle.std.proofs.Common.{Ok, Err}
use Rattle.std.proofs.Math.Bool.{or-true}
use Rattle.std.proofs.lemmas.Bool.{true≢false, or_cases, and_parts}
use Rattle.refusals.specs.declared.Refusal.{Refusal}
use Rattle.refusals.specs.declared.Rule.{Rule}
use Rattle.refusals.specs.Rule.{number}
use Rattle.refusals.specs.Check.{Check, Pass, Refused, refuse, ◌then◌, each, number_of, place_of}
use Rattle.refusals.proofs.Chain.{not_applied, applied}
use Rattle.refusals.proofs.Numbers.{number-above}
use Rattle.sheet.specs.Demands.{Demands, demand, ◌next◌, every, Met, FirstUnmet, Says}

-- Passing and refusing, for the two ways to put checks together. Of one rule alone Chain of the crate refusals has it.

-- what holds below n, and at n, holds below n + 1
pub below_suc : {P : ℕ → Type 0} {n : ℕ} → ((i : ℕ) → i < n → P i) → P n → (i : ℕ) → i < suc n → P i
below_suc {P} {n} before last i l =
    elim (dec_le n i) [
      | yes k ↦ let e : i ≡ n = omega arith in rw e last
      | no k ↦ before i (omega arith)
    ]

-- both of two checks pass
pub then-pass : (c d : Check) → c then d ≡ Pass → (c ≡ Pass) × (d ≡ Pass)
unfolding ◌then◌
then-pass (Ok _) d h = (refl, h)
then-pass (Err r) d h = (cc, cc)

-- the first refuses, or it passes and the second refuses
then-refused : (c d : Check) {r : Rule} {p : ℕ} → c then d ≡ Refused r p → (c ≡ Refused r p) ⊎ ((c ≡ Pass) × (d ≡ Refused r p))
unfolding ◌then◌
then-refused (Ok _) d h = inr (refl, h)
then-refused (Err r) d h = inl h

-- every record passes
pub each-pass : (f : ℕ → Check) (n : ℕ) → each f n ≡ Pass → (i : ℕ) → i < n → f i ≡ Pass
unfolding each
each-pass f zero h i l = absurd (omega arith)
each-pass f (suc n) h i l =
    let (before, last) = then-pass (each f n) (f n) h in
    below_suc {P = λ (k : ℕ). f k ≡ Pass} (each-pass f n before) last i l

-- some record refuses, and all before it pass
each-refused : (f : ℕ → Check) (n : ℕ) {r : Rule} {p : ℕ} → each f n ≡ Refused r p → (i : ℕ) × (i < n) × (each f i ≡ Pass) × (f i ≡ Refused r p)
unfolding each
each-refused f zero h = absurd (let z : ◌≡◌ {A = ℕ} 0 1 = cc in omega arith)
each-refused f (suc n) h =
    ⊎_elim
    (λ b. let (i, l, before, here) = each-refused f n b in (i, omega arith, before, here))
    (λ (before, here). (n, omega arith, before, here))
    (then-refused (each f n) (f n) h)

-- Checks that judge demands.

-- the test is false where A holds, and true where not
pub record Tests (wrong : Bool) (A : Type 0) : Type 0 where
  pub holds : wrong ≡ false → A
  pub fails : wrong ≡ true → ¬ A

-- the check passes where all demands are met, and else returns the first that is not
pub record Judges (c : Check) (D : Demands) : Type 0 where
  pub passes : c ≡ Pass → Met D
  pub refuses : (r : Rule) (p : ℕ) → c ≡ Refused r p → FirstUnmet (number r) p D

-- what a refusal says, with its number: no rule has number 0
says_above : (n p : ℕ) (D : Demands) → 0 < n → FirstUnmet n p D → Says D n p
says_above zero p D l u = absurd (omega arith)
says_above (suc n) p D l u = u

-- so its number and place say so
pub says : (c : Check) {D : Demands} → Judges c D → Says D (number_of c) (place_of c)
unfolding number_of place_of
says (Ok _) j = j.passes refl
says (Err r) {D} j = says_above (number r.rule) r.place D (number-above r.rule) (j.refuses r.rule r.place refl)

-- one test judges one demand
pub judges-refuse : {wrong : Bool} {r : Rule} {place : ℕ} {A : Type 0} → Tests wrong A → Judges (refuse wrong r place) (demand r place A)
judges-refuse {wrong} {r} {place} t = record {
  passes = λ h. t.holds (not_applied wrong r place refl h);
  refuses = λ n p h.
      let (b, e) = applied wrong r place refl h in
      (ap (λ (x : Refusal). number x.rule) e, ap (λ (x : Refusal). x.place) e, t.fails b);
}

-- two checks judge two demands, in this order
pub judges-then : {c d : Check} {D E : Demands} → Judges c D → Judges d E → Judges (c then d) (D next E)
judges-then {c} {d} j k = record {
  passes = λ h. let (a, b) = then-pass c d h in (j.passes a, k.passes b);
  refuses = λ n p h.
      ⊎_elim (λ a. inl (j.refuses n p a)) (λ (a, b). inr (j.passes a, k.refuses n p b)) (then-refused c d h);
}

-- one test, then the rest
infixr 4 ◌⊳◌
pub ◌⊳◌ : {wrong : Bool} {r : Rule} {place : ℕ} {A : Type 0} {d : Check} {E : Demands}
    → Tests wrong A → Judges d E → Judges (refuse wrong r place then d) (demand r place A next E)
t ⊳ j = judges-then (judges-refuse t) j

-- one check for each record judges one demand for each
pub judges-each : {f : ℕ → Check} {g : ℕ → Demands} (n : ℕ) → ((i : ℕ) → Judges (f i) (g i)) → Judges (each f n) (every n g)
judges-each {f} n j = record {
  passes = λ h i l. (j i).passes (each-pass f n h i l);
  refuses = λ m p h.
      let (i, l, before, here) = each-refused f n h in
      (i, l, (λ k b. (j k).passes (each-pass f i before k b)), (j i).refuses m p here);
}

-- a first demand that is not met is not met
unmet-not-met : (n p : ℕ) (D : Demands) → FirstUnmet n p D → Met D → ⊥
unmet-not-met n p (demand r place A) (m, q, fails) met = fails met
unmet-not-met n p (D next E) u met =
    ⊎_elim (λ a. unmet-not-met n p D a met.0) (λ (m, a). unmet-not-met n p E a met.1) u
unmet-not-met n p (every k f) (i, l, before, a) met = unmet-not-met n p (f i) a (met i l)

-- the check passes where all demands are met
pub met-passes : (c : Check) {D : Demands} → Judges c D → Met D → c ≡ Pass
met-passes (Ok _) j met = refl
met-passes (Err r) {D} j met = absurd (unmet-not-met (number r.rule) r.place D (j.refuses r.rule r.place refl) met)

-- True and false: std's lemma, by the name that the crates above cite.

pub true-is-not-false : true ≡ false → ⊥
true-is-not-false = true≢false

-- From the number alone to its demand.

-- the numbers of demands, the same for every record
abbrev pub numbers : Demands → List ℕ
numbers (demand r place A) = number r ∷ []
numbers (D next E) = numbers D ++ numbers E
numbers (every n f) = numbers (f 0)

-- a number is one of these
abbrev pub among : ℕ → List ℕ → Bool
among n [] = false
among n (m ∷ ms) = eqb n m || among n ms

-- none of the one is among the other
abbrev pub apart : List ℕ → List ℕ → Bool
apart [] ns = true
apart (m ∷ ms) ns = not (among m ns) && apart ms ns

-- no number stands for two demands
abbrev pub Once : Demands → Type 0
Once (demand r place A) = Unit
Once (D next E) = (apart (numbers D) (numbers E) ≡ true) × Once D × Once E
Once (every n f) = (i : ℕ) → (numbers (f i) ≡ numbers (f 0)) × Once (f i)

abbrev pub choose : Bool → Type 0 → Type 0 → Type 0
choose true A B = A
choose false A B = B

-- the demand of this number is not met at this place, and all before it are; at a numeral this computes to that demand
abbrev pub Unmet : ℕ → ℕ → Demands → Type 0
Unmet n p (demand r place A) = (n ≡ number r) × (p ≡ place) × ¬ A
Unmet n p (D next E) = choose (among n (numbers D)) (Unmet n p D) (Met D × Unmet n p E)
Unmet n p (every k f) = (i : ℕ) × (i < k) × ((j : ℕ) → j < i → Met (f j)) × Unmet n p (f i)

-- a number among the first, or among the second, is among both together
among-left : (n : ℕ) (ms ns : List ℕ) → among n ms ≡ true → among n (ms ++ ns) ≡ true
among-left n [] ns h = absurd (true≢false (sym h))
among-left n (m ∷ ms) ns h =
    ⊎_elim (λ e. rw e refl) (λ e. rw (among-left n ms ns e) (or-true (eqb n m))) (or_cases (eqb n m) (among n ms) h)

among-right : (n : ℕ) (ms ns : List ℕ) → among n ns ≡ true → among n (ms ++ ns) ≡ true
among-right n [] ns h = h
among-right n (m ∷ ms) ns h = rw (among-right n ms ns h) (or-true (eqb n m))

-- a number among the second is not among the first
apart-not : (n : ℕ) (ms ns : List ℕ) → apart ms ns ≡ true → among n ns ≡ true → among n ms ≡ false
apart-not n [] ns a h = refl
apart-not n (m ∷ ms) ns a h =
    let (absent, rest) = and_parts (not (among m ns)) (apart ms ns) a in
    rw (apart-not n ms ns rest h)
    (elim (ℕ_discrete n m) [
      | yes e ↦ absurd (true≢false (sym (rw e at h) ∙ not-true (among m ns) absent))
      | no e ↦ rw (ne_eqb n m e) refl
    ])

-- the first demand that is not met has one of the numbers
pub number-among : (n p : ℕ) (D : Demands) → Once D → FirstUnmet n p D → among n (numbers D) ≡ true
number-among n p (demand r place A) o u = rw (eq-eqb n (number r) u.0) refl
number-among n p (D next E) r u =
    ⊎_elim (λ a. among-left n (numbers D) (numbers E) (number-among n p D r.1 a))
    (λ (m, a). among-right n (numbers D) (numbers E) (number-among n p E r.2 a)) u
number-among n p (every k f) r (i, l, before, a) = rw (← (r i).0) (number-among n p (f i) (r i).1 a)

-- the first demand that is not met is the one of its number
pub unmet : (n p : ℕ) (D : Demands) → Once D → FirstUnmet n p D → Unmet n p D
unmet n p (demand r place A) o u = u
unmet n p (D next E) r u =
    ⊎_elim
    (λ a. rw (number-among n p D r.1 a) (unmet n p D r.1 a))
    (λ (m, a). rw (apart-not n (numbers D) (numbers E) r.0 (number-among n p E r.2 a)) (m, unmet n p E r.2 a)) u
unmet n p (every k f) r (i, l, before, a) = (i, l, before, unmet n p (f i) (r i).1 a)

-- the demand of this number is not met at this place
abbrev pub Broken : ℕ → ℕ → Demands → Type 0
Broken n p (demand r place A) = (p ≡ place) × ¬ A
Broken n p (D next E) = choose (among n (numbers D)) (Broken n p D) (Broken n p E)
Broken n p (every k f) = (i : ℕ) × (i < k) × Broken n p (f i)

choose-cong : (b : Bool) {A B C D : Type 0} → (A → C) → (B → D) → choose b A B → choose b C D
choose-cong true f g x = f x
choose-cong false f g y = g y

-- so it is, where also all before it are met
pub broken : (n p : ℕ) (D : Demands) → Unmet n p D → Broken n p D
broken n p (demand r place A) (m, q, fails) = (q, fails)
broken n p (D next E) u = choose-cong (among n (numbers D)) (broken n p D) (λ (m, a). broken n p E a) u
broken n p (every k f) (i, l, before, a) = (i, l, broken n p (f i) a)

-- Tests and what they demand.

-- the test is true where A holds, and false where not
pub record Shows (right : Bool) (A : Type 0) : Type 0 where
  pub shown : right ≡ true → A
  pub denied : right ≡ false → ¬ A

-- the test x < y demands y ≤ x
pub ltb-tests : (x y : ℕ) → Tests (ltb x y) (y ≤ x)
ltb-tests x y = record { holds = ltb-false x y; fails = λ t l. omega (arith, ltb-true x y t) }

-- either of two tests demands what both demand
pub ||-tests : {b c : Bool} {A B : Type 0} → Tests b A → Tests c B → Tests (b || c) (A × B)
||-tests {b = true} s t = record { holds = λ e. absurd (true≢false e); fails = λ e (x, y). s.fails refl x }
||-tests {b = false} s t = record { holds = λ e. (s.holds refl, t.holds e); fails = λ e (x, y). t.fails e y }

-- both of two tests demand what either demands
pub &&-tests : {b c : Bool} {A B : Type 0} → Tests b A → Tests c B → Tests (b && c) (A ⊎ B)
&&-tests {b = true} s t = record { holds = λ e. inr (t.holds e); fails = λ e. ⊎_elim (s.fails refl) (t.fails e) }
&&-tests {b = false} s t = record { holds = λ e. inl (s.holds refl); fails = λ e. absurd (true≢false (sym e)) }

-- two tests of one demand are equal
pub tests_same : {b c : Bool} {A : Type 0} → Tests b A → Tests c A → b ≡ c
tests_same {b = true} {c = true} s t = refl
tests_same {b = true} {c = false} s t = absurd (s.fails refl (t.holds refl))
tests_same {b = false} {c = true} s t = absurd (t.fails refl (s.holds refl))
tests_same {b = false} {c = false} s t = refl

-- where the demand is met the test is false
pub tests-met : {b : Bool} {A : Type 0} → Tests b A → A → b ≡ false
tests-met {b = true} t a = absurd (t.fails refl a)
tests-met {b = false} t a = refl

-- a demand in other words
pub tests-as : {b : Bool} {A B : Type 0} → (A → B) → (B → A) → Tests b A → Tests b B
tests-as to from t = record { holds = λ e. to (t.holds e); fails = λ e y. t.fails e (from y) }

-- that a test does not hold demands what it shows
pub not-tests : {b : Bool} {A : Type 0} → Shows b A → Tests (not b) A
not-tests {b} s = record { holds = λ e. s.shown (not-false b e); fails = λ e. s.denied (not-true b e) }

pub eqb-shows : (x y : ℕ) → Shows (eqb x y) (x ≡ y)
eqb-shows x y = record { shown = eqb-true x y; denied = eqb-false x y }

pub ≤-shows : (x y : Fraction) → Shows (x ≤? y) (x ≤ᶠ y)
≤-shows x y =
    test-cases (λ (c : Bool). Shows c (x ≤ᶠ y)) x y (λ h. record { shown = λ _. h; denied = λ e. absurd (true≢false e) })
    (λ n. record { shown = λ e. absurd (true≢false (sym e)); denied = λ _. n })

pub &&-shows : {b c : Bool} {A B : Type 0} → Shows b A → Shows c B → Shows (b && c) (A × B)
&&-shows {b = true} s t = record { shown = λ e. (s.shown refl, t.shown e); denied = λ e (x, y). t.denied e y }
&&-shows {b = false} s t = record { shown = λ e. absurd (true≢false (sym e)); denied = λ e (x, y). s.denied refl x }

pub leb-shows : (x y : ℕ) → Shows (leb x y) (x ≤ y)
leb-shows x y = record { shown = leb-true x y; denied = λ e l. omega (arith, leb-false x y e) }

-- that x ≤ y does not hold shows y < x
pub not-leb-shows : (x y : ℕ) → Shows (not (leb x y)) (y < x)
not-leb-shows x y = record { shown = λ e. leb-false x y (not-true (leb x y) e); denied = λ e l. omega (arith, leb-true x y (not-false (leb x y) e)) }

-- a test that is made of some sheets alone demands nothing of the others
pub guarded : {g b : Bool} {A B : Type 0} → Shows g A → Tests b B → Tests (g && b) (A → B)
guarded {g = true} s t = record { holds = λ e _. t.holds e; fails = λ e f. t.fails e (f (s.shown refl)) }
guarded {g = false} s t = record { holds = λ _ a. absurd (s.denied refl a); fails = λ e. absurd (true≢false (sym e)) }
