-- The load of a row at parking start, by its mileage.
-- Assumes nothing.
use mathlib.Core.Bool.{Bool, true, false}
use mathlib.Core.Path.{◌≡◌, ap}
use Prim.Native.Nat.{ℕ}
use borrow.Author.Tests.{eq-eqb, ne_eqb}
use Rattle.numbers.specs.Fraction.{Fraction, ◌/10^◌}
use Rattle.exact.specs.declared.Season.{Season}
use Rattle.exact.specs.declared.Row.{Row}
use Rattle.exact.specs.Canister.{size}
use Rattle.exact.specs.Mileage.{starting_load}
use Rattle.exact.specs.Factors.{vp, row_load}

module _ (n : ℕ) (season : Season) (row : Row) (T : Fraction) where
  -- either load, by the test that the mileage is 0
  by_mileage : Bool → Fraction
  by_mileage zero-km =
      elim zero-km [
        | true ↦ row.load /10^ 1
        | false ↦ starting_load n (season.vp /10^ 1) (size row.canister) T row.mileage (row.saturation /10^ 1)
      ]

  -- "0 keeps the written load"
  pub load-written : row.mileage ≡ 0 → row_load n season row T ≡ row.load /10^ 1
  unfolding row_load vp by_mileage
  load-written h = ap by_mileage (eq-eqb row.mileage 0 h)

  -- any other mileage has its starting load
  pub load-driven : ¬ (row.mileage ≡ 0)
      → row_load n season row T ≡ starting_load n (season.vp /10^ 1) (size row.canister) T row.mileage (row.saturation /10^ 1)
  unfolding row_load vp by_mileage
  load-driven h = ap by_mileage (ne_eqb row.mileage 0 h)
