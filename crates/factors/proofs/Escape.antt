-- The mean escape over the cells, with and without canister, of a rise of E(0.0716·T) that is known at each cell.
-- Assumes nothing.
use Rattle.std.proofs.Common.{Option, Some, None}
use mathlib.Core.Bool.{Bool}
use mathlib.Core.Path.{◌≡◌}
use mathlib.Core.List.{List}
use Prim.Native.Nat.{ℕ, ◌+◌, ◌*◌, ◌^◌, ◌/◌, ◌≤◌, ◌<◌}
use native.Mathlib.Omega.{arith}
use native.Mathlib.Nat.{mul_comm}
use lib.Dec.{leb}
use Rattle.numbers.specs.Fraction.{Fraction, ◌≈ᶠ◌, ◌*ᶠ◌, ◌/10^◌}
use Rattle.bounds.specs.Enclosure.{Within, WithinAll}
use Rattle.bounds.specs.Power.{degrees}
use Rattle.numbers.proofs.Order.{≈-sym, ≈-trans, *-comm, ratio}
use Rattle.bounds.proofs.Within.{widen, within-≈, *-within-rounded, all_map}
use Rattle.exact.specs.declared.Canister.{Canister}
use Rattle.exact.specs.declared.Season.{Season}
use Rattle.exact.specs.declared.Row.{Row}
use Rattle.exact.specs.Canister.{breakthrough, escape}
use Rattle.exact.specs.Factors.{row_load, total, mean}
use Rattle.sheet.specs.Range.{SeasonInRange}
use Rattle.sheet.specs.Range.{mark_warmth}
use Rattle.sheet.specs.Range.{RowInRange}
use Rattle.factors.specs.Means.{mean_units}
use Rattle.sheet.specs.Range.{halves}
use Rattle.factors.specs.Units.{gain, vapour_units, through_units, escape_units}
use Rattle.factors.proofs.Gain.{exact_gain, gain-within, gain-most}
use Rattle.thresholds.specs.Thresholds.{first_kilometres}
use Rattle.starting_loads.proofs.Start.{halves-pos}
use Rattle.factors.proofs.Breakthrough.{breakthrough-cong}
use Rattle.factors.proofs.Canister.{size_is, has-size, through_width, b-NonNegative, through-within}
use Rattle.factors.proofs.Mean.{mean-cong, mean-*, mean-within, mean_units-most}

module _ {season : Season} {row : Row} (s : SeasonInRange season) (r : RowInRange season row) where
  -- the vapour of a rise of at most M
  pub vapour-within : {scale rise w : ℕ} (n M : ℕ) {x : Fraction} → 40 ≤ n → rise ≤ M → Within scale rise w x
      → Within scale (vapour_units season row rise) ((M * 313 + 36 * 2 ^ 40 * w + w * 313) / 2 ^ 40 + 2) (exact_gain season row n *ᶠ x)
  unfolding vapour_units
  vapour-within {rise = rise} n M {x} n40 h a =
      rw (mul_comm (gain season row) rise)
      (within-≈ (*-comm x _) (*-within-rounded M (36 * 2 ^ 40) (omega arith) h (gain-most s r) a ((gain-within s r).at n n40)))

  -- each cell's mark with its temperature, its rise, and its vapour y
  module _ (counts : List ℕ) (p : 0 < total counts) {w : ℕ} (R : ℕ) (mark rise : ℕ → ℕ) (T : ℕ → Fraction) (x y : ℕ → ℕ → Fraction)
      (here : (cell : ℕ) → T cell ≈ᶠ degrees (mark_warmth season (mark cell))) (small : (cell : ℕ) → rise cell ≤ R * 2 ^ 40)
      (known : (cell : ℕ) → WithinAll (2 ^ 40) (rise cell) w (λ n. x n cell))
      (driven : (n cell : ℕ) → y n cell ≈ᶠ exact_gain season row n *ᶠ x n cell)
    where
      -- without canister: the gain times the mean rise
      pub open-within :
          WithinAll (2 ^ 28) (vapour_units season row (mean_units counts rise))
          ((R * 2 ^ 28 * 313 + 36 * 2 ^ 40 * (w / 2 ^ 12 + 3) + (w / 2 ^ 12 + 3) * 313) / 2 ^ 40 + 2) (λ n. mean (y n) counts)
      open-within = record {
        at = λ n n40.
            within-≈ (≈-sym (≈-trans (mean-cong (y n) _ counts (driven n)) (mean-* (exact_gain season row n) (x n) counts)))
            (vapour-within n (R * 2 ^ 28) n40 (mean_units-most counts rise (R * 2 ^ 28) (λ cell. omega (arith, small cell)))
            ((mean-within counts p rise x known).at n n40));
      }

      -- with a canister of size z: the mean of what breaks through
      through-mean : {z : Fraction} → z ≈ᶠ ratio (halves row.canister) 2 halves-pos → 0 < halves row.canister
          → WithinAll (2 ^ 28) (mean_units counts (λ (cell : ℕ). through_units season row (mark cell) (rise cell)))
          (through_width (leb first_kilometres row.mileage) R w / 2 ^ 12 + 3)
          (λ n. mean (λ (cell : ℕ). breakthrough n (season.vp /10^ 1) z (row.saturation /10^ 1) (T cell)
          (row_load n season row (T cell)) (y n cell)) counts)
      unfolding through_units
      through-mean {z} e there =
          mean-within counts p _
          (λ n cell. breakthrough n (season.vp /10^ 1) z (row.saturation /10^ 1) (T cell) (row_load n season row (T cell)) (y n cell))
          (λ cell.
          record {
            at = λ n n40.
                within-≈ (breakthrough-cong n (season.vp /10^ 1) z (row.saturation /10^ 1) (T cell)
                (row_load n season row (T cell)) (b-NonNegative s r n (mark cell) n40 (here cell) e)
                (≈-sym (driven n cell)))
                (through-within s r n (mark cell) n40 (here cell) e there R (small cell) ((known cell).at n n40));
          })

      -- the mean escape of the row's canister
      pub escape-within : (c : Option Canister) → row.canister ≡ c → (W : ℕ)
          → (R * 2 ^ 28 * 313 + 36 * 2 ^ 40 * (w / 2 ^ 12 + 3) + (w / 2 ^ 12 + 3) * 313) / 2 ^ 40 + 2 ≤ W
          → ((by_mileage : Bool) → through_width by_mileage R w / 2 ^ 12 + 3 ≤ W)
          → WithinAll (2 ^ 28) (escape_units season row counts c mark rise) W
          (λ n. mean (λ (cell : ℕ). escape n (season.vp /10^ 1) (row.saturation /10^ 1)
          (row_load n season row (T cell)) (T cell) c (y n cell)) counts)
      unfolding escape_units escape halves
      escape-within None e W o t = all_map (λ n a. widen a o) open-within
      escape-within (Some c) e W o t =
          all_map (λ n a. widen a (t (leb first_kilometres row.mileage))) (through-mean (rw e (size_is (Some c))) (rw e (has-size c)))
