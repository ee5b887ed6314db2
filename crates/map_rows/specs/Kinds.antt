-- The types of a row that are made of one for each road kind. Definitions only.
use Rattle.map_cells.specs.declared.Cell.{Cell}
use Rattle.map_cells.specs.declared.kinds.Limits.{Limits}
use Rattle.map_shares.specs.declared.Roads.{Roads}

-- the lows and highs of the three road kinds, as doubles
abbrev pub RoadLimits : Type 0
RoadLimits = Roads Limits

-- the three cells
abbrev pub RowCells : Type 0
RowCells = Roads Cell
