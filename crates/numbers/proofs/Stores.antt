-- Stores one after another, from a place on: what stands in them, before them and past them. std's `sets-eq` says the same of stores within
-- the list alone; only what stands in them asks for that here.
-- Assumes nothing.
use mathlib.Core.List.{List, [], ◌∷◌, ◌++◌, append_assoc}
use mathlib.Core.Path.{◌≡◌, refl, sym, ◌∙◌, ap}
use Prim.Native.Nat.{ℕ, suc, ◌+◌, ◌≤◌, ◌<◌}
use native.Mathlib.Numerals.{add-one}
use native.Mathlib.Omega.{arith}
use lib.ListN.{length, get_or, set, take, drop, get_or-append}
use lib.Seq.{sets, sets-eq, drop-set-lt, get_or-set_other, length-take-le}
use Rattle.numbers.specs.Lists.{tab}
use Rattle.numbers.proofs.Lists.{tab-length, past}

-- a store past the others
pub sets_more : (l : List ℕ) (i : ℕ) (vs : List ℕ) (v : ℕ) → set (sets l i vs) (i + length vs) v ≡ sets l i (vs ++ (v ∷ []))
sets_more l i [] v = ap (λ (k : ℕ). set l k v) {x = i + 0} {y = i} (omega arith)
sets_more l i (a ∷ vs) v =
    ap (λ (k : ℕ). set (sets (set l i a) (suc i) vs) k v) {x = i + suc (length vs)} {y = suc i + length vs} (omega arith) ∙
    sets_more (set l i a) (suc i) vs v

-- what stands before them,
pub sets-before : (l : List ℕ) (i : ℕ) (vs : List ℕ) (j : ℕ) → j < i → get_or (sets l i vs) j 0 ≡ get_or l j 0
sets-before l i [] j h = refl
sets-before l i (a ∷ vs) j h = sets-before (set l i a) (suc i) vs j (omega arith) ∙ get_or-set_other l i j a 0 (λ e. omega arith)

-- in them,
pub sets-in : (l : List ℕ) (i : ℕ) (vs : List ℕ) (m : ℕ) → m < length vs → i + length vs ≤ length l → get_or (sets l i vs) (i + m) 0 ≡ get_or vs m 0
sets-in l i vs m h g =
    rw (sets-eq vs l i g, append_assoc)
    (past (take i l) (vs ++ drop (i + length vs) l) i m (i + m) (length-take-le i l (omega arith)) refl ∙
    get_or-append vs (drop (i + length vs) l) 0 m h)

-- and past them
pub sets-beyond : (l : List ℕ) (i : ℕ) (vs : List ℕ) (j : ℕ) → i + length vs ≤ j → get_or (sets l i vs) j 0 ≡ get_or l j 0
sets-beyond l i [] j h = refl
sets-beyond l i (a ∷ vs) j h = sets-beyond (set l i a) (suc i) vs j (omega arith) ∙ get_or-set_other l i j a 0 (λ e. omega arith)

-- all that lies past them
pub drop-sets : (l : List ℕ) (i : ℕ) (vs : List ℕ) (n : ℕ) → i + length vs ≤ n → drop n (sets l i vs) ≡ drop n l
drop-sets l i [] n h = refl
drop-sets l i (a ∷ vs) n h = drop-sets (set l i a) (suc i) vs n (omega arith) ∙ drop-set-lt n l i a (omega arith)

-- A run of stores, those of g from a place on.
module _ (g : ℕ → ℕ) (old : List ℕ) (at m : ℕ) {words : List ℕ} (e : words ≡ sets old at (tab g m)) where
  -- the next word is still the old one
  pub run-next : get_or words (at + m) 0 ≡ get_or old (at + m) 0
  run-next = rw e (sets-beyond old at (tab g m) (at + m) (omega (arith, tab-length g m)))

  -- one more
  pub run_more : {v : ℕ} → v ≡ g m → set words (at + m) v ≡ sets old at (tab g (m + 1))
  unfolding tab
  run_more {v} h =
      rw (e, h, add-one)
      (ap (λ (k : ℕ). set (sets old at (tab g m)) (at + k) (g m)) (sym (tab-length g m)) ∙ sets_more old at (tab g m) (g m))
