-- "The enclosure is shown over any cell weights": of the factors, and of a row's six words.
-- Assumes nothing.
use mathlib.Core.List.{List}
use Prim.Native.Nat.{ℕ, ◌<◌}
use native.Mathlib.Omega.{arith}
use Rattle.exact.specs.declared.Season.{Season}
use Rattle.exact.specs.declared.Row.{Row}
use Rattle.exact.specs.Factors.{total}
use Rattle.exact.specs.Masses.{diurnal, soak, running}
use Rattle.factors.specs.Units.{factor_units}
use Rattle.factors.proofs.FactorBound.{low-≤-factor, factor-≤-high, high-near-low}
use Rattle.masses.specs.Figures.{row_figures}
use Rattle.masses.specs.AnyCounts.{InRange, Enclosed, FactorsTheorem, MassesTheorem}
use Rattle.masses.proofs.MassBound.{every_map}
use Rattle.masses.proofs.MassWidth.{mass-band}

-- every factor lies between its figures in micrograms
pub factors-enclosed : (counts : List ℕ) → 0 < total counts → (row : Row) (season : Season) → InRange row season → Enclosed counts season row
factors-enclosed counts some row season r = record {
  above = low-≤-factor season row counts r.season-in r.row_in some;
  below = factor-≤-high season row counts r.season-in r.row_in some;
}

pub any-factors : FactorsTheorem
any-factors counts some season row r =
    (factors-enclosed counts some row season r, λ k. omega (arith, high-near-low (factor_units season row counts k)))

pub any-masses : MassesTheorem
unfolding row_figures
any-masses counts some seasons row shares r =
    let band = mass-band counts shares seasons (every_map (factors-enclosed counts some row) seasons r) in
    record { diurnal-band = band diurnal; soak-band = band soak; running-band = band running }
