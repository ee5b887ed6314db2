-- The letters EVP at the start of a sheet.
-- Assumes nothing.
use native.Mathlib.Decide.{ℕ_discrete}
use borrow.Author.Tests.{eq-eqb, ne_eqb}
use Rattle.std.proofs.Common.{Bool, not, List, [], ◌∷◌, ◌≡◌, refl, sym, ℕ, ◌≤◌, length, nat_eq, arith}
use Rattle.std.specs.List.{starts_with}
use Rattle.std.proofs.Math.Bool.{and-true, and_assoc}
use Rattle.sheet.specs.Sheet.{letters_missing}

-- a byte is compared with a letter either way
other_way : (x y : ℕ) → nat_eq x y ≡ nat_eq y x
other_way x y =
    elim (ℕ_discrete x y) [
      | yes e ↦ rw (eq-eqb x y e, eq-eqb y x (sym e)) refl
      | no n ↦ rw (ne_eqb x y n, ne_eqb y x (λ e. n (sym e))) refl
    ]

-- a sheet of three bytes or more starts with them where its first three are theirs
pub letters : (s : List ℕ) → 3 ≤ length s → {r : Bool} → r ≡ starts_with nat_eq s (0x45 ∷ 0x56 ∷ 0x50 ∷ []) → not r ≡ letters_missing s
unfolding letters_missing
letters [] h e = absurd (omega arith)
letters (a ∷ []) h e = absurd (omega arith)
letters (a ∷ b ∷ []) h e = absurd (omega arith)
letters (a ∷ b ∷ c ∷ s) h e = rw (e, other_way 0x45 a, other_way 0x56 b, other_way 0x50 c, and-true, and_assoc) refl
