-- The sums that the program adds up, by cell and by distance from 14:00, give the means of the definitions, and fit 64 bits.
use mathlib.Core.Bool.{Bool}
use mathlib.Core.List.{List}
use mathlib.Core.Path.{◌≡◌, sym, ◌∙◌, ap, ap₂}
use Prim.Native.Nat.{ℕ, ◌*◌, ◌/◌, ◌^◌, ◌≤◌, ◌<◌}
use native.Mathlib.Omega.{arith}
use lib.ListN.{length}
use Rattle.numbers.specs.Lists.{tab, at, sum}
use Rattle.numbers.proofs.Lists.{sum-ext, get_d-tab}
use Rattle.bounds.specs.Weights.{apart}
use Rattle.bounds.specs.Ahead.{ahead}
use Rattle.exact.specs.Factors.{total}
use Rattle.factors.specs.Means.{weighted, mean_units}
use Rattle.factors.proofs.Mean.{weighted-most}
use Rattle.parking.specs.Grid.{CellsInRange, mark_of, apart_of, tally}
use Rattle.parking.proofs.Sums.{weighted-is, weighted-ext}
use Rattle.parking.proofs.Tally.{mark_of-below, apart_of-below, by_place}

module _ {cells : List ℕ} (r : CellsInRange cells) (value : ℕ → ℕ) where
  -- what is added up over the places of the list is the weighted sum
  by-cell : sum (λ (cell : ℕ). at cells cell * (value cell / 2 ^ 12)) 576 ≡ weighted (λ (cell : ℕ). value cell / 2 ^ 12) 0 cells
  by-cell =
      ap (sum (λ (cell : ℕ). at cells cell * (value cell / 2 ^ 12))) (sym r.length-is) ∙
      sum-ext (length cells) (λ k h. ap (λ (cell : ℕ). at cells k * (value cell / 2 ^ 12)) (omega arith)) ∙
      sym (weighted-is (λ (cell : ℕ). value cell / 2 ^ 12) 0 cells)

  -- at most a million counts of values below 2⁵⁴, in units of 2⁻²⁸ g
  fits : {x : ℕ} → x ≡ weighted (λ (cell : ℕ). value cell / 2 ^ 12) 0 cells → ((cell : ℕ) → value cell ≤ 2 ^ 54) → x < 2 ^ 64
  fits e h =
      omega (
        arith,
        e,
        r.total-most,
        weighted-most (λ (cell : ℕ). value cell / 2 ^ 12) (2 ^ 42) (λ cell. omega (arith, h cell)) 0 cells,
      )

  -- divided by the sum of the counts it is the mean
  mean-is : {x counted : ℕ} → x ≡ weighted (λ (cell : ℕ). value cell / 2 ^ 12) 0 cells → counted ≡ total cells → x / counted ≡ mean_units cells value
  unfolding mean_units
  mean-is e t = ap₂ (λ (x y : ℕ). x / y) e t

  -- by cell
  pub cell-fits : ((cell : ℕ) → value cell ≤ 2 ^ 54) → sum (λ (cell : ℕ). at cells cell * (value cell / 2 ^ 12)) 576 < 2 ^ 64
  cell-fits h = fits by-cell h

  pub cell-mean : {x counted : ℕ} → x ≡ sum (λ (cell : ℕ). at cells cell * (value cell / 2 ^ 12)) 576 → counted ≡ total cells
      → x / counted ≡ mean_units cells value
  cell-mean e t = mean-is (e ∙ by-cell) t

module _ {cells : List ℕ} (r : CellsInRange cells) (ends : Bool) (value : ℕ → ℕ) where
  -- by distance from 14:00
  added-by-distance : sum (λ (d : ℕ). at (tally 25 (apart_of ends) cells 576) d * (value d / 2 ^ 12)) 25
      ≡ weighted (λ (cell : ℕ). value (apart_of ends cell) / 2 ^ 12) 0 cells
  added-by-distance =
      by_place 25 (apart_of ends) cells (apart_of-below ends) (λ (d : ℕ). value d / 2 ^ 12) 576 ∙
      by-cell r (λ (cell : ℕ). value (apart_of ends cell))

  pub distance-fits : ((d : ℕ) → d < 25 → value d ≤ 2 ^ 54)
      → sum (λ (d : ℕ). at (tally 25 (apart_of ends) cells 576) d * (value d / 2 ^ 12)) 25 < 2 ^ 64
  distance-fits h = fits r (λ (cell : ℕ). value (apart_of ends cell)) added-by-distance (λ cell. h (apart_of ends cell) (apart_of-below ends cell))

  pub distance-mean : {x counted : ℕ} → x ≡ sum (λ (d : ℕ). at (tally 25 (apart_of ends) cells 576) d * (value d / 2 ^ 12)) 25
      → counted ≡ total cells → x / counted ≡ mean_units cells (λ (cell : ℕ). value (apart_of ends cell))
  distance-mean e t = mean-is r (λ (cell : ℕ). value (apart_of ends cell)) (e ∙ added-by-distance) t

-- the same values in all cells, the same mean
pub mean-below : (cells : List ℕ) {f g : ℕ → ℕ} → length cells ≡ 576 → ((cell : ℕ) → cell < 576 → f cell ≡ g cell)
    → mean_units cells f ≡ mean_units cells g
unfolding mean_units
mean-below cells l e =
    ap (λ (x : ℕ). x / total cells) (weighted-ext cells (λ cell h. ap (λ (x : ℕ). x / 2 ^ 12) (e cell (rw l at h))))

pub mean-ext : (cells : List ℕ) {f g : ℕ → ℕ} → ((cell : ℕ) → f cell ≡ g cell) → mean_units cells f ≡ mean_units cells g
unfolding mean_units
mean-ext cells e = ap (λ (x : ℕ). x / total cells) (weighted-ext cells (λ cell _. ap (λ (x : ℕ). x / 2 ^ 12) (e cell)))

-- values that stand in a list of 576; and by distance in a list of 25, where those of marks as far from 14:00 are the same
pub mean-tab : (cells : List ℕ) {values : List ℕ} (f : ℕ → ℕ) → length cells ≡ 576 → values ≡ tab f 576
    → mean_units cells (at values) ≡ mean_units cells f
mean-tab cells f l e = mean-below cells l (λ cell h. rw e (get_d-tab f 576 cell h))

pub mean-marks : (cells : List ℕ) {values : List ℕ} (ends : Bool) (f : ℕ → ℕ) → ((i : ℕ) → i < 48 → f (ahead (apart i)) ≡ f i)
    → values ≡ tab (λ (d : ℕ). f (ahead d)) 25
    → mean_units cells (λ (cell : ℕ). at values (apart_of ends cell)) ≡ mean_units cells (λ (cell : ℕ). f (mark_of ends cell))
mean-marks cells ends f alike e =
    mean-ext cells
    (λ cell. rw e (get_d-tab (λ (d : ℕ). f (ahead d)) 25 (apart_of ends cell) (apart_of-below ends cell)) ∙
    alike (mark_of ends cell) (mark_of-below ends cell))
