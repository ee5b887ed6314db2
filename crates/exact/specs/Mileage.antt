-- The starting load of a canister, from the odometer: request Three of document 02. Definitions only.
use Rattle.std.specs.Prelude.{Bool, true, false, ℕ, suc, zero, ◌*◌, ◌-◌, ◌^◌, ◌/◌, ◌<◌}
use Rattle.numbers.specs.Fraction.{Fraction, ◌≤ᶠ◌, ◌+ᶠ◌, ◌-ᶠ◌, ◌*ᶠ◌, whole, ◌/10^◌, inverse, ◌≤?◌}
use Rattle.bounds.specs.Series.{E, multiple}
use Rattle.exact.specs.Canister.{a, b}

-- "multiple of 2⁻ⁿ gram": the k of the last that is at most x, for x of 0 or more
unfoldable pub multiples : ℕ → Fraction → ℕ
multiples n x = 2 ^ n * (x.up - x.down) / x.den

-- vp in kPa, the size s, T in °C; loads in grams
module _ (n : ℕ) (vp s T : Fraction) where
  -- "For a load m let g = m − E(a + b·s·m), after equation 9."
  unfoldable pub g : Fraction → Fraction
  g m = m -ᶠ E n (a vp T +ᶠ b vp T *ᶠ s *ᶠ m)

  -- "E((s·g + 22.92)/8.13)": the kilometres that a load stands for, "after equation 12"
  unfoldable pub driven : Fraction → Fraction
  driven m = E n ((s *ᶠ g m +ᶠ 2292 /10^ 2) *ᶠ inverse (813 /10^ 2))

  -- M in km, m_sat in grams
  module _ (M : ℕ) (saturation : Fraction) where
    -- "The load reaches M when E((s·g + 22.92)/8.13) is at least M"
    unfoldable pub reaches : Fraction → Bool
    reaches m = whole M ≤? driven m

    -- the first to reach M of so many multiples, from the k-th on, "and m_sat if none does"
    unfoldable pub first_of : ℕ → ℕ → Fraction
    first_of zero k = saturation
    first_of (suc count) k = elim (reaches (multiple n k)) [ true ↦ multiple n k | false ↦ first_of count (suc k) ]

    -- "The starting load is the smallest multiple of 2⁻ⁿ gram, from 0 to m_sat, that reaches M, and m_sat if none does"
    unfoldable pub starting_load : Fraction
    starting_load = first_of (suc (multiples n saturation)) 0

    -- "The load reaches M"
    pub record Reaches (m : Fraction) : Type 0 where
      pub far : whole M ≤ᶠ driven m

    -- "the smallest multiple of 2⁻ⁿ gram, from 0 to m_sat, that reaches M, and m_sat if none does"
    pub data IsStart : Fraction → Type 0 where
      smallest : (k : ℕ) → multiple n k ≤ᶠ saturation → Reaches (multiple n k) → ((j : ℕ) → j < k → ¬ Reaches (multiple n j))
          → IsStart (multiple n k)
      none-reaches : ((j : ℕ) → multiple n j ≤ᶠ saturation → ¬ Reaches (multiple n j)) → IsStart saturation

-- the search finds it, for an m_sat of 0 or more. Proved as `starting_load-is` in proofs/Smallest.
abbrev pub StartTheorem : Type 0
StartTheorem = (n : ℕ) (vp s T : Fraction) (M : ℕ) (saturation : Fraction) → whole 0 ≤ᶠ saturation
    → IsStart n vp s T M saturation (starting_load n vp s T M saturation)
