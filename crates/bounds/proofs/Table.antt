-- The rule of a table, proved at all of its entries by one test that antt computes, one entry after the other.
use mathlib.Core.Path.{◌∙◌, subst, sym}
use mathlib.Core.Bool.{Bool, true, false}
use mathlib.Core.List.{List, [], ◌∷◌}
use Prim.Native.Nat.{ℕ, zero, suc, ◌+◌, ◌≤◌, ◌<◌}
use native.Mathlib.Nat.{add-zero, zero-add, add-suc, suc-add, le_of_suc-le-suc, not-suc-le-zero, le_refl, le_trans}
use lib.Dec.{T, leb, leb→le}
use lib.ListN.{length, get_or}

-- both tests pass
abbrev pub both : Bool → Bool → Bool
both true b = b
both false b = false

-- the first passes
pub both_left : (a b : Bool) → T (both a b) → T a
both_left true b t = tt
both_left false b t = t

-- the second passes
pub both_right : (a b : Bool) → T (both a b) → T b
both_right true b t = t
both_right false b t = absurd t

-- the test f passes at each entry of the list and its place, counted from i
abbrev pub every : (ℕ → ℕ → Bool) → ℕ → List ℕ → Bool
every f i [] = true
every f i (x ∷ xs) = both (f i x) (every f (suc i) xs)

-- the law at a place counted from i
from : (f : ℕ → ℕ → Bool) (xs : List ℕ) (i : ℕ) → T (every f i xs) → (k : ℕ) → k < length xs → T (f (i + k) (get_or xs k 0))
from f [] i t k h = absurd (not-suc-le-zero h)
from f (x ∷ xs) i t zero h = subst (λ (m : ℕ). T (f m x)) (sym (add-zero i)) (both_left (f i x) (every f (suc i) xs) t)
from f (x ∷ xs) i t (suc k) h =
    subst (λ (m : ℕ). T (f m (get_or xs k 0))) (suc-add i k ∙ sym (add-suc i k))
    (from f xs (suc i) (both_right (f i x) (every f (suc i) xs) t) k (le_of_suc-le-suc h))

-- a test that passes over the whole list passes at each place
pub at : (f : ℕ → ℕ → Bool) (xs : List ℕ) → T (every f 0 xs) → (k : ℕ) → k < length xs → T (f k (get_or xs k 0))
at f xs t k h = subst (λ (m : ℕ). T (f m (get_or xs k 0))) (zero-add k) (from f xs 0 t k h)

-- no entry is below the one before it, and the first is at least a
abbrev pub ascending : ℕ → List ℕ → Bool
ascending a [] = true
ascending a (x ∷ xs) = both (leb a x) (ascending x xs)

-- every entry is at least a
pub ascending-least : (a : ℕ) (xs : List ℕ) → T (ascending a xs) → (k : ℕ) → k < length xs → a ≤ get_or xs k 0
ascending-least a [] t k h = absurd (not-suc-le-zero h)
ascending-least a (x ∷ xs) t zero h = leb→le a x (both_left (leb a x) (ascending x xs) t)
ascending-least a (x ∷ xs) t (suc k) h =
    le_trans (leb→le a x (both_left (leb a x) (ascending x xs) t))
    (ascending-least x xs (both_right (leb a x) (ascending x xs) t) k (le_of_suc-le-suc h))

-- an ascending list grows with the place
pub ascending-at : (a : ℕ) (xs : List ℕ) → T (ascending a xs) → (i j : ℕ) → i ≤ j → j < length xs → get_or xs i 0 ≤ get_or xs j 0
ascending-at a [] t i j l h = absurd (not-suc-le-zero h)
ascending-at a (x ∷ xs) t zero zero l h = le_refl x
ascending-at a (x ∷ xs) t zero (suc j) l h =
    ascending-least x xs (both_right (leb a x) (ascending x xs) t) j (le_of_suc-le-suc h)
ascending-at a (x ∷ xs) t (suc i) zero l h = absurd (not-suc-le-zero l)
ascending-at a (x ∷ xs) t (suc i) (suc j) l h =
    ascending-at x xs (both_right (leb a x) (ascending x xs) t) i j (le_of_suc-le-suc l) (le_of_suc-le-suc h)
