-- What std's `from_fn` makes of calls that leave their closure as it was: the list of what they give.
use mathlib.Core.List.{List}
use mathlib.Core.Logic.{⊎_elim}
use mathlib.Core.Path.{◌≡◌, sym, ◌∙◌, subst}
use Prim.Native.Nat.{ℕ, zero, suc, ◌+◌, ◌≤◌, ◌<◌, zero-le}
use native.Mathlib.Nat.{eq-or-lt_of_le}
use native.Mathlib.Omega.{arith}
use denote.Param.Members.{Mut, Called}
use lib.ListN.{get_or}
use Rattle.std.specs.Array.{IsFromFnResult, IsFromFnResultFrom}
use Rattle.numbers.specs.Lists.{tab}
use Rattle.numbers.proofs.Lists.{tab-at, tab-ext}

-- what each call promises of what it gives, for its number
module _ {A F : Type 0} (g : Mut F (ℕ × Unit {0}) A) (f : F) (P : ℕ → A → Type 0)
    (gives : (i : ℕ) (y : A) (q : F) → Called g f (i, tt) y q → P i y × (q ≡ f)) where
  -- from a place on,
  each_from : (xs : List A) (i n : ℕ) → IsFromFnResultFrom g f xs i n → (d : A) (k : ℕ) → i ≤ k → k < i + n → P k (get_or xs k d)
  each_from xs i zero w d k a b = absurd (omega arith)
  each_from xs i (suc n) (q, y, e, c, w) d k a b =
      let same = gives i y q c in
      let rest = subst (λ (p : F). IsFromFnResultFrom g p xs (i + 1) n) same.1 w in
      ⊎_elim
      (λ at. subst (λ (j : ℕ). P j (get_or xs j d)) at (subst (P i) (sym (e.1 d)) same.0))
      (λ past. each_from xs (i + 1) n rest d k (omega arith) (omega arith)) (eq-or-lt_of_le a)

  -- and of the whole list
  pub made_each : {xs : List A} {n : ℕ} → IsFromFnResult g f xs n → (d : A) (k : ℕ) → k < n → P k (get_or xs k d)
  made_each {xs} {n} w d k h = each_from xs 0 n w.each d k zero-le (omega arith)

-- what stands at each place of a list of values
module _ {A F : Type 0} (g : Mut F (ℕ × Unit {0}) A) (f : F) (h : ℕ → A)
    (gives : (i : ℕ) (y : A) (q : F) → Called g f (i, tt) y q → (y ≡ h i) × (q ≡ f)) where
  -- from a place on
  pub made_from : (xs : List A) (i n : ℕ) → IsFromFnResultFrom g f xs i n → (d : A) (k : ℕ) → i ≤ k → k < i + n → get_or xs k d ≡ h k
  made_from = each_from g f (λ (i : ℕ) (y : A). y ≡ h i) gives

-- a list of numbers
module _ {F : Type 0} (g : Mut F (ℕ × Unit {0}) ℕ) (f : F) (h : ℕ → ℕ)
    (gives : (i y : ℕ) (q : F) → Called g f (i, tt) y q → (y ≡ h i) × (q ≡ f)) where
  -- all of it
  pub made-all : {xs : List ℕ} {n : ℕ} → IsFromFnResult g f xs n → xs ≡ tab h n
  made-all {xs} {n} w =
      sym (tab-at xs w.long) ∙ tab-ext n (λ k l. made_from g f h gives xs 0 n w.each 0 k (omega arith) (omega arith))
