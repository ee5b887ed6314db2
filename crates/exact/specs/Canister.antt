-- The carbon canister: what it loses, and what breaks through. Definitions only.
use Rattle.std.specs.Prelude.{true, false, Option, Some, None, ℕ}
use Rattle.numbers.specs.Fraction.{Fraction, ◌+ᶠ◌, ◌-ᶠ◌, negᶠ, ◌*ᶠ◌, whole, ◌/10^◌, ◌≤?◌}
use Rattle.bounds.specs.Series.{E}
use Rattle.exact.specs.declared.Canister.{Canister}
use Rattle.exact.specs.declared.Canister.TheVariants.{Small, Medium, Large}

-- "a = −11 − 0.015·vp + 0.065·T"
unfoldable pub a : Fraction → Fraction → Fraction
a vp T = negᶠ (whole 11) -ᶠ 15 /10^ 3 *ᶠ vp +ᶠ 65 /10^ 3 *ᶠ T

-- "b = 0.115 − 0.00015·vp + 0.0001·T"
unfoldable pub b : Fraction → Fraction → Fraction
b vp T = 115 /10^ 3 -ᶠ 15 /10^ 5 *ᶠ vp +ᶠ 1 /10^ 4 *ᶠ T

-- "s = 2, 1, 0.5 for small, medium, large"; without canister there is none, and nothing asks for it
abbrev pub size : Option Canister → Fraction
size None = whole 0
size (Some Small) = whole 2
size (Some Medium) = whole 1
size (Some Large) = 5 /10^ 1

-- vp in kPa, the size s, m_sat in grams, "T the temperature from which the escape starts"; loads and vapour in grams
module _ (n : ℕ) (vp s saturation T : Fraction) where
  -- "E(a + b·s·m)"
  unfoldable pub curve : Fraction → Fraction
  curve m = E n (a vp T +ᶠ b vp T *ᶠ s *ᶠ m)

  -- "Lost by load m: B(m) = E(a + b·s·m) up to m_sat, above it B(m_sat) + m − m_sat."
  unfoldable pub B : Fraction → Fraction
  B m = elim (m ≤? saturation) [ true ↦ curve m | false ↦ curve saturation +ᶠ m -ᶠ saturation ]

  -- "Breakthrough of vapour v is B(m1 + v) − B(m1)"
  unfoldable pub breakthrough : Fraction → Fraction → Fraction
  breakthrough m1 v = B (m1 +ᶠ v) -ᶠ B m1

module _ (n : ℕ) (vp saturation m1 T : Fraction) where
  -- " "Escape" is this with a canister, v without."
  unfoldable pub escape : Option Canister → Fraction → Fraction
  escape None v = v
  escape (Some c) v = breakthrough n vp (size (Some c)) saturation T m1 v
