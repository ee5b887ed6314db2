-- Where the words of each block stand.
use mathlib.Core.List.{List}
use mathlib.Core.Logic.{⊎_elim}
use mathlib.Core.Path.{◌≡◌, refl, ◌∙◌}
use Prim.Native.Nat.{ℕ, suc, zero, ◌+◌, ◌*◌, ◌≤◌, ◌<◌}
use native.Mathlib.Nat.{eq-or-lt_of_le, mul-le-mul_left}
use native.Mathlib.Omega.{arith}
use lib.ListN.{length, get_or, length-append, get_or-append}
use Rattle.numbers.proofs.Lists.{past}
use Rattle.blocks.specs.Blocks.{blocks}

module _ (f : ℕ → List ℕ) (w : ℕ) (size : (i : ℕ) → length (f i) ≡ w) where
  -- n blocks of w words each
  pub blocks-length : (n : ℕ) → length (blocks f n) ≡ w * n
  unfolding blocks
  blocks-length zero = omega arith
  blocks-length (suc n) = length-append (blocks f n) (f n) ∙ omega (arith, blocks-length n, size n)

  -- word m of block i
  pub blocks_at : (n i m : ℕ) → i < n → m < w → get_or (blocks f n) (w * i + m) 0 ≡ get_or (f i) m 0
  unfolding blocks
  blocks_at zero i m h l = absurd (omega arith)
  blocks_at (suc n) i m h l =
      let within : i ≤ n = omega arith in
      ⊎_elim
      (λ e. rw e (past (blocks f n) (f n) (w * n) m (w * n + m) (blocks-length n) refl))
      (λ g.
      let inside : w * i + m < length (blocks f n) = omega (arith, blocks-length n, mul-le-mul_left w g) in
      get_or-append (blocks f n) (f n) 0 (w * i + m) inside ∙ blocks_at n i m g l)
      (eq-or-lt_of_le within)
