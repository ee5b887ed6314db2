-- What is promised of a row's cells, or of their refusal. Definitions only.
use Rattle.std.specs.Prelude.{Ok, ◌⊎◌, ◌≡◌, ℕ, ◌≤◌}
use Rattle.refusals.specs.Check.{number_of, place_of}
use Rattle.map_cells.specs.Doubles.{mass_limit}
use Rattle.map_cells.specs.declared.Cell.{Cell}
use Rattle.map_cells.specs.Values.{InCell, NoMinus}
use Rattle.map_shares.specs.declared.Travel.{Travel}
use Rattle.map_shares.specs.declared.Words.{Words}
use Rattle.map_shares.specs.Kinds.{Road, RowShares}
use Rattle.map_shares.specs.Demands.{TravelIn, WordsIn}
use Rattle.map_shares.specs.Roads.{urban_road, rural_road, highway_road}
use Rattle.map_shares.specs.Shares.{total, row_shares}
use Rattle.map_shares.specs.ExactShares.{ExactMasses, InWords, exact_sum}
use Rattle.map_rows.specs.Kinds.{RowCells}
use Rattle.map_rows.specs.Rows.{RowCellsAnswer}

-- no cell's high is above 2⁵³
pub record RoomIn (s : RowShares) : Type 0 where
  pub urban-room : total s.urban.high ≤ mass_limit
  pub rural-room : total s.rural.high ≤ mass_limit
  pub highway-room : total s.highway.high ≤ mass_limit

-- one cell: for any three exact masses that lie in the row's words, "the sum of a cell's exact shares lies in that cell, and is 0 where the
-- cell is empty"; and no minus zero is given back
pub record CellPromise (w : Words) (k : Road) (c : Cell) : Type 0 where
  pub holds : (x : ExactMasses) → InWords w x → InCell c (exact_sum x k)
  pub no_minus : NoMinus c

pub record CellsPromise (w : Words) (t : Travel) (v : RowCells) : Type 0 where
  pub urban : CellPromise w (urban_road t) v.urban
  pub rural : CellPromise w (rural_road t) v.rural
  pub highway : CellPromise w (highway_road t) v.highway

-- what an answer's number means, "place 0": nothing of 28 and 27 applies; or 28; or, where that does not apply, 27
pub record RowSays (w : Words) (t : Travel) (number place : ℕ) : Type 0 where
  pub place_is : place ≡ 0
  pub meaning : ((number ≡ 0) × TravelIn t × WordsIn w × RoomIn (row_shares w t)) ⊎
      ((number ≡ 28) × ¬ (TravelIn t)) ⊎
      ((number ≡ 27) × TravelIn t × ¬ (WordsIn w × RoomIn (row_shares w t)))

pub record RowCellsPromise (w : Words) (t : Travel) (r : RowCellsAnswer) : Type 0 where
  pub says : RowSays w t (number_of r) (place_of r)
  pub cells : (v : RowCells) → r ≡ Ok v → CellsPromise w t v
