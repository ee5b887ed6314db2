-- Two functions that agree at 0, 1, .. n − 1, found by computing both there.
-- Assumes nothing.
use mathlib.Core.List.{List, [], ◌∷◌}
use mathlib.Core.Path.{◌≡◌}
use Prim.Native.Nat.{ℕ, suc, zero, ◌<◌}
use native.Mathlib.Omega.{arith}

-- f 0, f 1, .. f (n − 1)
abbrev pub first : {A : Type 0} → (ℕ → A) → ℕ → List A
first f zero = []
first f (suc n) = f 0 ∷ first (λ k. f (suc k)) n

pub alike : {A : Type 0} (f g : ℕ → A) (n : ℕ) → first f n ≡ first g n → (i : ℕ) → i < n → f i ≡ g i
alike f g zero e i h = absurd (omega arith)
alike f g (suc n) e zero h = cc
alike f g (suc n) e (suc i) h = alike (λ k. f (suc k)) (λ k. g (suc k)) n (cc) i (omega arith)
