-- Need not be believed: what the load at parking start is found from.
use Rattle.std.specs.Prelude.{◌≡◌, ℕ, ◌≤◌, ◌<◌}
use Rattle.thresholds.specs.Thresholds.{first_kilometres}
use Rattle.exact.specs.declared.Row.{Row}
use Rattle.sheet.specs.Range.{halves}
use Rattle.starting_loads.specs.Net.{net_of}
use Rattle.starting_loads.specs.Balance.{BalanceReady}
use Rattle.factors.specs.Escape.{tenth_grams}

-- what a row's canister keeps of its load, from the mileage alone: no season changes it
pub record KeptOf (row : Row) (kept : ℕ) : Type 0 where
  pub kept-is : first_kilometres ≤ row.mileage → 0 < halves row.canister → kept ≡ net_of (halves row.canister) row.mileage

-- where a + 16 and 2·b·s are these, in units of 2⁻⁴⁴: with a mileage every exponent up to m_sat is at most 0
pub record LoadReady (row : Row) (base growth : ℕ) : Type 0 where
  pub saturation-most : row.saturation ≤ 3685
  pub load-most : row.load ≤ row.saturation
  pub canister-there : 0 < halves row.canister
  pub balanced : first_kilometres ≤ row.mileage
      → BalanceReady (record { line = record { base = base; growth = growth }; saturation = tenth_grams row.saturation })
