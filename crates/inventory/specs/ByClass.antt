-- What a sheet and the same with a class's canister or tank written out have in common: "A canister or tank taken from the class counts
-- exactly as the same value written on the row". Definitions only.
use Rattle.std.specs.Prelude.{Option, List, ◌≡◌, ℕ}
use Rattle.exact.specs.declared.Canister.{Canister}
use Rattle.exact.specs.Classes.{fitted_with}
use Rattle.refusals.specs.Check.{Pass}
use Rattle.sheet.specs.Bytes.{row_place, equipment_at}
use Rattle.sheet.specs.Sheet.{sheet_check}
use Rattle.sheet.specs.ByClass.{Written}
use Rattle.inventory.specs.SameGrid.{SameInventory}

-- refused alike; and where s is accepted, with every n each season and row has the same exact factors and each row the same exact masses,
-- and both calls answer the same of s and of t, with the same words
pub record SameByClass (s t : List ℕ) : Type 0 where
  pub check-same : sheet_check t ≡ sheet_check s
  pub inventory : sheet_check s ≡ Pass → SameInventory s t

-- so it is for every s, and every t that is s with the canister or the tank, or both, of row i written as its class has them
abbrev pub ClassTheorem : Type 0
ClassTheorem = (s t : List ℕ) (i : ℕ) (c : Option Canister) (tank : ℕ) → equipment_at s (row_place s i) ≡ fitted_with c tank
    → Written s t (row_place s i) c tank → SameByClass s t
