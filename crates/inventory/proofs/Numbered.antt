-- The seven factors of a season and row by their numbers.
use mathlib.Core.List.{List}
use mathlib.Core.Path.{◌≡◌, refl}
use Prim.Native.Nat.{ℕ, suc, zero, ◌-◌, ◌≤◌}
use native.Mathlib.Omega.{arith}
use lib.ListN.{get_or}
use Rattle.row_factors.specs.Seven.{seven_units}
use Rattle.sheet.specs.Bytes.{cells_of, season_at, row_at}
use Rattle.inventory.specs.FactorAnswers.{units_at}
use Rattle.inventory.specs.FactorBand.{numbered}

-- factor k stands at k − 1 of the seven
pub unit_at : (s : List ℕ) (season row k : ℕ) → 1 ≤ k → k ≤ 7
    → get_or (seven_units (season_at s season) (row_at s row) (cells_of s)) (k - 1) 0 ≡ units_at s season row k
unfolding seven_units units_at numbered
unit_at s season row zero h l = absurd (omega arith)
unit_at s season row (suc zero) h l = refl
unit_at s season row (suc (suc zero)) h l = refl
unit_at s season row (suc (suc (suc zero))) h l = refl
unit_at s season row (suc (suc (suc (suc zero)))) h l = refl
unit_at s season row (suc (suc (suc (suc (suc zero))))) h l = refl
unit_at s season row (suc (suc (suc (suc (suc (suc zero)))))) h l = refl
unit_at s season row (suc (suc (suc (suc (suc (suc (suc zero))))))) h l = refl
unit_at s season row (suc (suc (suc (suc (suc (suc (suc (suc k)))))))) h l = absurd (omega arith)
