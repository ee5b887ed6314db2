-- Need not be believed: what the program makes once of an accepted sheet.
use Rattle.std.specs.Prelude.{List, ◌≡◌, ℕ, ◌<◌, get_or}
use denote.Ref.{MutBor}
use denote.Param.Members.{Shared}
use Rattle.exact.specs.declared.Row.{Row}
use Rattle.masses.specs.declared.figures.UsedRow.{UsedRow}
use Rattle.sheet.specs.Bytes.{rows_of, cells_of, season_at, row_at}
use Rattle.sheet.specs.Range.{RowInRange}
use Rattle.breakthrough.specs.Loads.{KeptOf}
use Rattle.row_factors.specs.declared.season.Prepared.{Prepared}
use Rattle.row_factors.specs.declared.units.Units.{Units}
use Rattle.row_factors.specs.Seven.{seven_units}
use Rattle.row_factors.specs.Season.{rises_of, SeasonReady}

-- season j of a sheet with these counts of the cells, made ready for its rows
pub record SeasonOf (s counts : List ℕ) (j : ℕ) (made : Prepared) : Type 0 where
  pub season-is : made.at.season ≡ season_at s j
  pub ready : SeasonReady counts made.at
  pub rises-are : made.rises ≡ rises_of made.at.season
  pub rows_in : (i : ℕ) → i < rows_of s → RowInRange made.at.season (row_at s i)

-- what the canister of each row keeps of its load
pub record RowsKept (s kept : List ℕ) : Type 0 where
  pub kept_of : (i : ℕ) → i < rows_of s → KeptOf (row_at s i) (get_or kept i 0)

-- the seven factors of row i in season j, in units
abbrev pub units_at : List ℕ → ℕ → ℕ → List ℕ
units_at s j i = seven_units (season_at s j) (row_at s i) (cells_of s)

-- For a closure that gets a row of a season, its seven factors and its part of a buffer.
module _ {F : Type 0} (g : Shared F (UsedRow × (Units × (MutBor (List ℕ) × Unit {0}))) (Unit {0} × (MutBor (List ℕ) × Unit {0}))) (fill : F) where
  -- it may be called with this row, these factors and this part
  abbrev pub AcceptsRow : Row → List ℕ → List ℕ → Type 0
  AcceptsRow row units part =
      (r : UsedRow) (u : Units) (p : MutBor (List ℕ)) → r.loaded.row ≡ row → u.factors ≡ units → p.now ≡ part → g.pre fill (r, (u, (p, tt)))

  -- a call of it may leave `after` in the part
  pub record ChangesRow (row : Row) (units part after : List ℕ) : Type 0 where
    pub used : UsedRow
    pub used-is : used.loaded.row ≡ row
    pub seven : Units
    pub seven-are : seven.factors ≡ units
    pub argument : MutBor (List ℕ)
    pub argument_is : argument.now ≡ part
    pub after_call : MutBor (List ℕ)
    pub call : g.post fill (used, (seven, (argument, tt))) (tt, (after_call, tt))
    pub left : after_call.now ≡ after
