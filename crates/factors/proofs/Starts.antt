-- The load at parking start and its error, by whether they come from the mileage.
-- Assumes nothing.
use mathlib.Core.Bool.{Bool, true, false}
use mathlib.Core.Path.{◌≡◌, refl}
use Prim.Native.Nat.{ℕ, ◌≤◌, ◌<◌}
use native.Mathlib.Omega.{arith}
use lib.Dec.{leb}
use borrow.Author.Tests.{le-leb, lt-leb, leb-true, leb-false}
use Rattle.thresholds.specs.Thresholds.{first_kilometres}
use Rattle.starting_loads.proofs.Loaded.{loaded-most}
use Rattle.exact.specs.declared.Row.{Row}
use Rattle.starting_loads.specs.Net.{start_units}
use Rattle.sheet.specs.Range.{halves}
use Rattle.factors.specs.Escape.{tenth_grams, written_error, driven_error}
use Rattle.factors.specs.Units.{row_start, loss_error}

module _ (row : Row) where
  pub start-driven : (a k : ℕ) → first_kilometres ≤ row.mileage
      → row_start row a k ≡ start_units a k (halves row.canister) (tenth_grams row.saturation) row.mileage
  unfolding row_start
  start-driven a k h = rw (row_start, le-leb first_kilometres row.mileage h) refl

  pub start-written : (a k : ℕ) → row.mileage < first_kilometres → row_start row a k ≡ tenth_grams row.load
  unfolding row_start
  start-written a k h = rw (row_start, lt-leb first_kilometres row.mileage h) refl

  pub error-driven : first_kilometres ≤ row.mileage → loss_error row ≡ driven_error
  unfolding loss_error
  error-driven h = rw (loss_error, le-leb first_kilometres row.mileage h) refl

  pub error-written : row.mileage < first_kilometres → loss_error row ≡ written_error
  unfolding loss_error
  error-written h = rw (loss_error, lt-leb first_kilometres row.mileage h) refl

-- tenths of a gram keep their order
tenth_grams-mono : {j k : ℕ} → j ≤ k → tenth_grams j ≤ tenth_grams k
unfolding tenth_grams
tenth_grams-mono h = omega arith

module _ (row : Row) (h : row.load ≤ row.saturation) where
  start-by : (by_mileage : Bool) (a k : ℕ) → leb first_kilometres row.mileage ≡ by_mileage → row_start row a k ≤ tenth_grams row.saturation
  start-by true a k e = rw (start-driven row a k (leb-true first_kilometres row.mileage e)) (loaded-most _ _ _ _)
  start-by false a k e = rw (start-written row a k (leb-false first_kilometres row.mileage e)) (tenth_grams-mono h)

  -- the load at parking start is at most m_sat
  pub start-below : (a k : ℕ) → row_start row a k ≤ tenth_grams row.saturation
  start-below a k = start-by (leb first_kilometres row.mileage) a k refl
