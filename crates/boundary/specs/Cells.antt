-- Cells for a program in another language: numbers and doubles. Definitions only.
use Rattle.std.specs.Prelude.{Option, Some, None, Ok, Err, cond, false, ◌⊎◌, ◌≡◌, ◌<◌, eqb, ltb, pos, Float}
use Rattle.std.specs.Float.{fin}
use Rattle.std.specs.Float.Ieee.{eq}
use Rattle.refusals.specs.Rule.{number}
use Rattle.map_cells.specs.declared.Cell.{Cell}
use Rattle.map_cells.specs.declared.Cell.TheVariants.{Empty, Exact, Band}
use Rattle.map_cells.specs.Sums.{CellAnswer, cell_refusal, cell_sum}
use Rattle.map_cells.specs.Promise.{SumPromise}
use Rattle.map_shares.specs.declared.Travel.{Travel}
use Rattle.map_shares.specs.declared.Words.{Words}
use Rattle.map_rows.specs.Kinds.{RowCells}
use Rattle.map_rows.specs.Promise.{RowCellsPromise}
use Rattle.map_rows.specs.Rows.{RowCellsAnswer, travel_refusal, row_cells_answer}
use Rattle.boundary.specs.declared.EvpCell.{EvpCell}
use Rattle.boundary.specs.declared.EvpRowCells.{EvpRowCells}
use Rattle.boundary.specs.declared.EvpCellSum.{EvpCellSum}
use Rattle.boundary.specs.declared.EvpTravel.{EvpTravel}

-- kind 0 empty, with 0 in both doubles; 1 one mass, in both; 2 a low and a high
unfoldable pub cell_numbers : Cell → EvpCell
cell_numbers Empty = record { kind = 0; low = fin false 0 (pos 0); high = fin false 0 (pos 0) }
cell_numbers (Exact m) = record { kind = 1; low = m; high = m }
cell_numbers (Band low high) = record { kind = 2; low = low; high = high }

-- kind 3 is no cell: it stands where a call refuses, and is refused where it is handed in
unfoldable pub no_cell : EvpCell
no_cell = record { kind = 3; low = fin false 0 (pos 0); high = fin false 0 (pos 0) }

-- number 0 where the cells are given; a refusal has none
unfoldable pub row_numbers : RowCellsAnswer → EvpRowCells
row_numbers (Ok v) = record {
  number = 0;
  place = 0;
  urban = cell_numbers v.urban;
  rural = cell_numbers v.rural;
  highway = cell_numbers v.highway;
}
row_numbers (Err refusal) = record {
  number = number refusal.rule;
  place = refusal.place;
  urban = no_cell;
  rural = no_cell;
  highway = no_cell;
}

unfoldable pub sum_numbers : CellAnswer → EvpCellSum
sum_numbers (Ok c) = record { number = 0; place = 0; cell = cell_numbers c }
sum_numbers (Err refusal) = record { number = number refusal.rule; place = refusal.place; cell = no_cell }

-- one mass has it in both doubles
unfoldable pub exact_handed : Float → Float → Option Cell
exact_handed low high = cond (eq low high) (Some (Exact low)) None

-- a cell handed in, by its kind; the doubles of an empty one are not read, and any other kind is no cell
unfoldable pub cell_handed : EvpCell → Option Cell
cell_handed c =
    cond (eqb c.kind 0) (Some Empty)
    (cond (eqb c.kind 1) (exact_handed c.low c.high)
    (cond (eqb c.kind 2) (Some (Band c.low c.high)) None))

-- "27 .. a cell handed in that is none of these"
unfoldable pub handed_sum : Option Cell → Option Cell → CellAnswer
handed_sum (Some a) (Some b) = cell_sum a b
handed_sum (Some a) None = Err cell_refusal
handed_sum None b = Err cell_refusal

-- where a row's vehicles drive: town 1 is in town, 0 is not, and any other number tells nothing
unfoldable pub travel_handed : EvpTravel → Option Travel
travel_handed t = cond (ltb 1 t.town) None (Some (record { town = eqb t.town 1; mileage = t.mileage; speed = t.speed }))

-- it is then refused as a mileage or a speed out of its range is: 28, before all else
unfoldable pub handed_row : Words → Option Travel → RowCellsAnswer
handed_row w (Some t) = row_cells_answer w t
handed_row w None = Err travel_refusal

-- "Neither writes a cell": what comes with a refusal cannot be handed in
pub record RowCellsNone (r : EvpRowCells) : Type 0 where
  pub urban : cell_handed r.urban ≡ None
  pub rural : cell_handed r.rural ≡ None
  pub highway : cell_handed r.highway ≡ None

-- what is given may be handed in, and is then the same cell
pub record RowCellsGiven (v : RowCells) (r : EvpRowCells) : Type 0 where
  pub urban : cell_handed r.urban ≡ Some v.urban
  pub rural : cell_handed r.rural ≡ Some v.rural
  pub highway : cell_handed r.highway ≡ Some v.highway

-- what holds after the call for a row, as `cells_of_row` has it in Rattle: the numbers are those of an answer that keeps the promise, and where
-- town is neither 0 nor 1 they are 28 and place 0
pub record RowCellsNumbers (w : Words) (t : EvpTravel) (r : EvpRowCells) : Type 0 where
  pub answer-is : r ≡ row_numbers (handed_row w (travel_handed t))
  pub promise : (x : Travel) → travel_handed t ≡ Some x → RowCellsPromise w x (handed_row w (travel_handed t))
  pub no-town : 1 < t.town → (r.number ≡ 28) × (r.place ≡ 0)
  pub refused : ¬ (r.number ≡ 0) → RowCellsNone r
  pub given : (v : RowCells) → handed_row w (travel_handed t) ≡ Ok v → RowCellsGiven v r

-- what holds after the call for a sum: the numbers are those of the answer; the sum of two cells handed in keeps the promise of `add_cells`,
-- and anything else is number 27; a refusal has no cell, and a cell that is given may be handed in again
pub record CellSumNumbers (a b : EvpCell) (r : EvpCellSum) : Type 0 where
  pub answer-is : r ≡ sum_numbers (handed_sum (cell_handed a) (cell_handed b))
  pub promise : (x y : Cell) → cell_handed a ≡ Some x → cell_handed b ≡ Some y → SumPromise x y (handed_sum (cell_handed a) (cell_handed b))
  pub none : (cell_handed a ≡ None) ⊎ (cell_handed b ≡ None) → (r.number ≡ 27) × (r.place ≡ 0)
  pub refused : ¬ (r.number ≡ 0) → cell_handed r.cell ≡ None
  pub given : (c : Cell) → handed_sum (cell_handed a) (cell_handed b) ≡ Ok c → cell_handed r.cell ≡ Some c
