-- The class and technology table: what stands in a class's list, and that beyond the table the pair is absent.
-- Assumes nothing.
use mathlib.Core.List.{List, [], ◌∷◌}
use mathlib.Core.Path.{◌≡◌, refl}
use Prim.Native.Nat.{ℕ, suc, zero, ◌*◌, ◌≤◌}
use native.Mathlib.Nat.{not-suc-le-zero, le_of_suc-le-suc}
use borrow.Author.Tests.{ne_eqb}
use lib.ListN.{length}
use Rattle.std.proofs.Common.{Option, None, MatchOption, slice_get}
use Rattle.exact.specs.declared.Canister.{Canister}
use Rattle.exact.specs.declared.Fitted.{Fitted}
use Rattle.exact.specs.Classes.{Class, absent, fitted_with, classes, at_technology, at_class, equipment}
use Rattle.sheet.specs.Bytes.{written_canister, canister_of}

-- what stands at a technology in a class's list, with the class's tank, is what the table has
pub looked-up : (litres : ℕ) (canisters : List (Option Canister)) (t : ℕ) {o : Option (Option Canister)} {r : Option Fitted} → o ≡
    slice_get canisters t
    → MatchOption o (r ≡ absent) (λ c. r ≡ fitted_with c (10 * litres)) → r ≡ at_technology litres canisters t
unfolding at_technology
looked-up litres [] t e h = rw e at h
looked-up litres (c ∷ cs) zero e h = rw e at h
looked-up litres (c ∷ cs) (suc t) e h = looked-up litres cs t e h

-- a place beyond a list of classes is absent
beyond : (ks : List Class) (place t : ℕ) → length ks ≤ place → absent ≡ at_class ks place t
unfolding at_class
beyond [] place t h = refl
beyond (k ∷ ks) zero t h = absurd (not-suc-le-zero h)
beyond (k ∷ ks) (suc place) t h = beyond ks place t (le_of_suc-le-suc h)

-- a class from 10 on is absent
pub no-class : (k t : ℕ) → 10 ≤ k → absent ≡ equipment k t
unfolding equipment classes
no-class zero t h = refl
no-class (suc place) t h = beyond classes place t (le_of_suc-le-suc h)

-- a code other than 1, 2 and 3 writes no canister
writes-none : (code : ℕ) → (code ≡ 1 → ⊥) → (code ≡ 2 → ⊥) → (code ≡ 3 → ⊥) → None ≡ written_canister code
unfolding written_canister
writes-none zero n1 n2 n3 = refl
writes-none (suc zero) n1 n2 n3 = absurd (n1 refl)
writes-none (suc (suc zero)) n1 n2 n3 = absurd (n2 refl)
writes-none (suc (suc (suc zero))) n1 n2 n3 = absurd (n3 refl)
writes-none (suc (suc (suc (suc code)))) n1 n2 n3 = refl

-- a code other than 1, 2, 3 and 255 stands for no canister
pub no-canister : (code : ℕ) (e : Option Fitted) → (code ≡ 1 → ⊥) → (code ≡ 2 → ⊥) → (code ≡ 3 → ⊥) → (code ≡ 255 → ⊥)
    → None ≡ canister_of code e
unfolding canister_of
no-canister code e n1 n2 n3 n255 = rw (canister_of, ne_eqb code 255 n255) (writes-none code n1 n2 n3)
