-- The truncated exponential and the cut root of document 01, "Exact masses", n a parameter of each. Definitions only.
use Rattle.std.specs.Prelude.{true, false, ℕ, suc, zero, ◌+◌, ◌*◌, ◌-◌, ◌^◌, ◌/◌, ◌≤◌, ◌<◌, leb}
use Rattle.std.proofs.lemmas.Nat.{pow_pos}
use Rattle.numbers.specs.Fraction.{Fraction, ◌≤ᶠ◌, ◌+ᶠ◌, negᶠ, ◌*ᶠ◌, ◌^ᶠ◌, whole, ◌over◌, inverse, ◌≤?◌, ratio}

unfoldable pub factorial : ℕ → ℕ
factorial zero = 1
factorial (suc i) = suc i * factorial i

-- "yⁱ/i!"
unfoldable pub term : Fraction → ℕ → Fraction
term y i = y ^ᶠ i over factorial i

-- "S_n(y) is the sum of yⁱ/i! for i from 0 to n."
unfoldable pub S : ℕ → Fraction → Fraction
S zero y = term y 0
S (suc n) y = S n y +ᶠ term y (suc n)

-- "E(y) is S_n(y) for y ≥ 0 and 1/S_n(−y) below."
unfoldable pub E : ℕ → Fraction → Fraction
E n y = elim (whole 0 ≤? y) [ true ↦ S n y | false ↦ inverse (S n (negᶠ y)) ]

-- The largest whole number whose square is at most x, by binary digits: twice that of x / 4, or one more.
-- The first argument ends the recursion; x itself is enough.
unfoldable pub root_from : ℕ → ℕ → ℕ
root_from zero x = 0
root_from (suc fuel) x =
    elim (leb x 0) [
      | true ↦ 0
      | false ↦
          let r = 2 * root_from fuel (x / 4) in
          elim (leb ((r + 1) * (r + 1)) x) [ true ↦ r + 1 | false ↦ r ]
    ]

unfoldable pub root : ℕ → ℕ
root x = root_from x x

pub two_pos : (n : ℕ) → 0 < 2 ^ n
two_pos n = pow_pos n

-- a multiple of 2⁻ⁿ: k of them
abbrev pub multiple : ℕ → ℕ → Fraction
multiple n k = ratio k (2 ^ n) (two_pos n)

-- a root of x ≥ 0 "cut after n binary places, that is the largest multiple of 2⁻ⁿ whose square is at most" x
unfoldable pub cut_root : ℕ → Fraction → Fraction
cut_root n x = record { up = root (4 ^ n * (x.up - x.down) / x.den); down = 0; den = 2 ^ n; pos = two_pos n }

-- r / 2ⁿ is "the largest multiple of 2⁻ⁿ whose square is at most" x
pub record LargestMultiple (n : ℕ) (x : Fraction) (r : ℕ) : Type 0 where
  pub low : multiple n r *ᶠ multiple n r ≤ᶠ x
  pub largest : (k : ℕ) → multiple n k *ᶠ multiple n k ≤ᶠ x → k ≤ r

-- the cut root is that multiple. Proved as `cut_root-is` in proofs/Root.
abbrev pub CutRootTheorem : Type 0
CutRootTheorem = (n : ℕ) (x : Fraction) → whole 0 ≤ᶠ x → LargestMultiple n x (cut_root n x).up

-- "T^2.5 is the root of T⁵ cut after n binary places .. and 0 for T below 0, where the source has no value."
unfoldable pub power2_5 : ℕ → Fraction → Fraction
power2_5 n t = elim (whole 0 ≤? t) [ true ↦ cut_root n (t ^ᶠ 5) | false ↦ whole 0 ]
