-- How much each place counts: the tally of the cells by place, and sums taken by place instead of by cell.
use mathlib.Core.Bool.{Bool, true, false}
use mathlib.Core.Path.{◌≡◌, refl, ◌∙◌}
use mathlib.Core.List.{List}
use Prim.Native.Nat.{ℕ, zero, suc, ◌+◌, ◌*◌, ◌≤◌, ◌<◌}
use native.Mathlib.Numerals.{add-one}
use native.Mathlib.Omega.{arith}
use native.Mathlib.Decide.{ℕ_discrete}
use lib.ListN.{length, set, replicate, length-set, length-replicate}
use lib.Seq.{get_or-set_same, get_or-set_other}
use Rattle.numbers.specs.Lists.{at, sum}
use Rattle.numbers.proofs.Lists.{sum-none, sum_more, sum-le}
use Rattle.bounds.proofs.Laws.{apart-most}
use Rattle.marks.proofs.Curve.{start_mark-below}
use Rattle.factors.specs.Units.{start_of, end_of}
use Rattle.parking.specs.Grid.{mark_of, apart_of, tally}
use Rattle.parking.proofs.Sums.{sum-but-one}

-- a mark is below 48
pub mark_of-below : (ends : Bool) (cell : ℕ) → mark_of ends cell < 48
unfolding start_of end_of
mark_of-below true cell = start_mark-below _ _
mark_of-below false cell = start_mark-below _ _

-- and at most 12 hours from 14:00
pub apart_of-below : (ends : Bool) (cell : ℕ) → apart_of ends cell < 25
apart_of-below ends cell = omega (arith, apart-most (mark_of ends cell))

-- a store at a place takes the old value's part away and adds the new one's
sum-set : (g : ℕ → ℕ) (xs : List ℕ) (a v n : ℕ) → a < length xs → a < n
    → sum (λ (k : ℕ). at (set xs a v) k * g k) n + at xs a * g a ≡ sum (λ (k : ℕ). at xs k * g k) n + v * g a
sum-set g xs a v n l h =
    rw (get_or-set_same xs a v 0 l) at
    (sum-but-one (λ (k : ℕ). at xs k * g k) (λ (k : ℕ). at (set xs a v) k * g k) a n h (λ k e. rw (get_or-set_other xs a k v 0 e)))

-- a list of zeros
pub blank : (n k : ℕ) → at (replicate n 0) k ≡ 0
blank zero k = refl
blank (suc n) zero = refl
blank (suc n) (suc k) = blank n k

-- nothing counted
zeros : (places : ℕ) (g : ℕ → ℕ) (n : ℕ) → sum (λ (k : ℕ). at (replicate places 0) k * g k) n ≡ 0
zeros places g n =
    omega (arith, sum-le (λ (k : ℕ). at (replicate places 0) k * g k) 0 n (λ k h. rw (blank places k) (omega arith)))

module _ (places : ℕ) (place : ℕ → ℕ) (cells : List ℕ) where
  pub tally-length : (n : ℕ) → length (tally places place cells n) ≡ places
  unfolding tally
  tally-length zero = length-replicate {A = ℕ} places 0
  tally-length (suc n) = length-set (tally places place cells n) (place n) _ ∙ tally-length n

  -- none counted
  pub tally-none : replicate places 0 ≡ tally places place cells 0
  unfolding tally
  tally-none = refl

  -- one more cell counted
  pub tally-more : (n : ℕ)
      → set (tally places place cells n) (place n) (at (tally places place cells n) (place n) + at cells n) ≡ tally
      places place cells (n + 1)
  unfolding tally
  tally-more n = rw add-one

  module _ (below : (cell : ℕ) → place cell < places) where
    -- no place counts more than all cells so far
    pub tally-le : (n k : ℕ) → at (tally places place cells n) k ≤ sum (at cells) n
    unfolding tally
    tally-le zero k = omega (arith, sum-none (at cells), blank places k)
    tally-le (suc n) k =
        let old = tally places place cells n in
        let counted = rw add-one at (sum_more (at cells) n refl refl) in
        elim (ℕ_discrete k (place n)) [
          | yes e ↦ rw (e, get_or-set_same old (place n) _ 0 (rw (tally-length n) (below n)))
              (omega (arith, tally-le n (place n), counted))
          | no e ↦ rw (get_or-set_other old (place n) k _ 0 e) (omega (arith, tally-le n k, counted))
        ]

    -- Σ over cells of count·g(place of the cell) = Σ over places of (how much the place counts)·g(place)
    pub by_place : (g : ℕ → ℕ) (n : ℕ) → sum (λ (k : ℕ). at (tally places place cells n) k * g k) places ≡ sum
        (λ (cell : ℕ). at cells cell * g (place cell)) n
    unfolding tally
    by_place g zero = zeros places g places ∙ sum-none (λ (cell : ℕ). at cells cell * g (place cell))
    by_place g (suc n) =
        let old = tally places place cells n in
        let counted = rw add-one at (sum_more (λ (cell : ℕ). at cells cell * g (place cell)) n refl refl) in
        omega (
          arith,
          by_place g n,
          counted,
          sum-set g old (place n) (at old (place n) + at cells n) places (rw (tally-length n) (below n)) (below n),
        )
