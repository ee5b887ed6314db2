-- Up to 16 km the empty canister reaches M: the starting load is 0.
-- Assumes nothing.
use mathlib.Core.Bool.{Bool, true, false}
use mathlib.Core.Path.{◌≡◌, ap}
use Prim.Native.Nat.{ℕ, ◌*◌, ◌^◌, ◌≤◌}
use native.Mathlib.Omega.{arith}
use Rattle.numbers.specs.Fraction.{Fraction, ◌≤ᶠ◌, ◌≈ᶠ◌, ◌+ᶠ◌, negᶠ, ◌-ᶠ◌, ◌*ᶠ◌, whole, ◌/10^◌, inverse}
use Rattle.numbers.proofs.Order.{positive→NonNegative, test-true, whole-mono, ≤-refl, ≤_trans, ≈-refl, ≈-sym, ≈-trans}
use Rattle.numbers.proofs.Order.{≈→≤, ≈→≥, +-mono, +-cong, +-zero, sub-mono, *-mono-left, *-mono-right, *-cong, *-zero}
use Rattle.numbers.proofs.Order.{inverse-positive, ratio, ratio-NonNegative}
use Rattle.bounds.specs.Series.{multiple}
use Rattle.bounds.specs.Enclosure.{Within}
use Rattle.bounds.specs.Exponential.{exponent}
use Rattle.bounds.proofs.Within.{widen, within-≈, whole-within}
use Rattle.bounds.proofs.Laws.{E-at-2_78, E-at-minus-7_75, E-mono}
use Rattle.exact.specs.Canister.{a, b}
use Rattle.exact.specs.Mileage.{multiples, g, driven, reaches, first_of, starting_load}
use Rattle.starting_loads.proofs.Bracket.{multiple-0}
use Rattle.starting_loads.proofs.Start.{halves-pos, driven_exponent, driven_exponent-cong}

-- −7.75, above which no a is; and 2.78, where E is 16 or more
abbrev top-a : Fraction
top-a = negᶠ (775 /10^ 2)

abbrev for-16 : Fraction
for-16 = 278 /10^ 2

-- a ≤ −7.75, as it is held
top-a-held : (A : ℕ) → A ≤ 825 * 10 ^ 12 → exponent A ≤ᶠ top-a
unfolding negᶠ ◌/10^◌
top-a-held A h = omega arith

-- 2.78 ≤ (s·(0 − 1/8) + 22.92)/8.13 for s ≤ 2
for-16-≤ : (h : ℕ) → h ≤ 4 → for-16 ≤ᶠ driven_exponent (ratio h 2 halves-pos) (whole 0 -ᶠ 125 /10^ 3)
unfolding ratio ◌+ᶠ◌ ◌-ᶠ◌ negᶠ ◌*ᶠ◌ ◌/10^◌ inverse whole
for-16-≤ h l = record { cross = omega arith }

module _ (n A h M : ℕ) (vp s saturation T : Fraction) (n40 : 40 ≤ n) (ea : a vp T ≈ᶠ exponent A) (A-most : A ≤ 825 * 10 ^ 12)
    (es : s ≈ᶠ ratio h 2 halves-pos) (h4 : h ≤ 4) (most : M ≤ 16)
  where
    -- −1/8 ≤ g(0)
    g-0 : whole 0 -ᶠ 125 /10^ 3 ≤ᶠ g n vp s T (multiple n 0)
    unfolding g
    g-0 = sub-mono (≈→≥ (multiple-0 n)) (≤_trans (E-mono n (≤_trans (≈→≤ at-0) (top-a-held A A-most))) (E-at-minus-7_75 n n40))
      where
        at-0 : a vp T +ᶠ b vp T *ᶠ s *ᶠ multiple n 0 ≈ᶠ exponent A
        at-0 = ≈-trans (+-cong ea (≈-trans (*-cong (≈-refl _) (multiple-0 n)) (*-zero _))) (+-zero _)

    -- the exponent grows with g
    driven_exponent-mono : {x y : Fraction} → x ≤ᶠ y → driven_exponent (ratio h 2 halves-pos) x ≤ᶠ driven_exponent (ratio h 2 halves-pos) y
    driven_exponent-mono l =
        *-mono-left (positive→NonNegative (inverse-positive _)) (+-mono (*-mono-right (ratio-NonNegative h halves-pos) l) (≤-refl _))

    -- the empty canister reaches M
    empty-reaches : whole M ≤ᶠ driven n vp s T (multiple n 0)
    unfolding driven
    empty-reaches =
        ≤_trans (whole-mono most)
        (≤_trans (E-at-2_78 n n40)
        (E-mono n (≤_trans (for-16-≤ h h4) (≤_trans (driven_exponent-mono g-0) (≈→≥ (driven_exponent-cong (g n vp s T (multiple n 0)) es))))))

    -- the starting load is 0
    pub empty-start : starting_load n vp s T M saturation ≡ multiple n 0
    unfolding starting_load first_of reaches
    empty-start =
        ap
        (λ (t : Bool). elim t [
          | true ↦ multiple n 0
          | false ↦ first_of n vp s T M saturation (multiples n saturation) 1
        ]) (test-true empty-reaches)

    -- so it is within a unit of 0
    pub empty-within : Within (2 ^ 40) 0 1 (starting_load n vp s T M saturation)
    empty-within = rw empty-start (widen (within-≈ (≈-sym (multiple-0 n)) (whole-within (2 ^ 40) 0)) (omega arith))
