-- A sheet in which a row has its class's canister or tank written out: "A canister or tank taken from the class counts exactly as the same
-- value written on the row". Definitions only.
use Rattle.std.specs.Prelude.{Option, Some, None, List, ◌⊎◌, ◌≡◌, ℕ, ◌+◌, length}
use Rattle.exact.specs.declared.Canister.{Canister}
use Rattle.exact.specs.declared.Canister.TheVariants.{Small, Medium, Large}
use Rattle.sheet.specs.Integers.{u8_at, u16_at}

-- "canister (0 none, 1 small, 2 medium, 3 large, 255 by class)"
abbrev pub code_of : Option Canister → ℕ
code_of None = 0
code_of (Some Small) = 1
code_of (Some Medium) = 2
code_of (Some Large) = 3

-- s' is s, except that in the row at p, whose class stands for canister c and tank t, these may be written where s leaves them
-- to the class
pub record Written (s s' : List ℕ) (p : ℕ) (c : Option Canister) (t : ℕ) : Type 0 where
  pub same_length : length s' ≡ length s
  pub elsewhere : (k : ℕ) → ¬ (k ≡ p + 2) → ¬ (k ≡ p + 6) → ¬ (k ≡ p + 7) → u8_at s' k ≡ u8_at s k
  pub canister : (u8_at s' (p + 2) ≡ u8_at s (p + 2)) ⊎ ((u8_at s (p + 2) ≡ 255) × (u8_at s' (p + 2) ≡ code_of c))
  pub tank : (u16_at s' (p + 6) ≡ u16_at s (p + 6)) ⊎ ((u16_at s (p + 6) ≡ 0) × (u16_at s' (p + 6) ≡ t))
