-- Need not be believed: the lows and highs of the road kinds as doubles. That the cells between them are those of Rows is
-- proved in proofs/SharedOut.
use Rattle.std.specs.Prelude.{◌≡◌, ◌≤◌}
use Rattle.map_cells.specs.Doubles.{mass_limit, double}
use Rattle.map_cells.specs.Between.{cell_between}
use Rattle.map_cells.specs.declared.kinds.Limits.{Limits}
use Rattle.map_shares.specs.declared.RoadShares.{RoadShares}
use Rattle.map_shares.specs.Shares.{total}
use Rattle.map_rows.specs.Kinds.{RoadLimits, RowCells}

-- both sums are at most 2⁵³
pub record Fits (s : RoadShares) : Type 0 where
  pub order : total s.low ≤ total s.high
  pub room : total s.high ≤ mass_limit

-- a road kind's two doubles are its sums
pub record LimitsOf (s : RoadShares) (k : Limits) : Type 0 where
  pub low-is : k.low ≡ double (total s.low)
  pub high_is : k.high ≡ double (total s.high)

unfoldable pub cells_within : RoadLimits → RowCells
cells_within k = record {
  urban = cell_between k.urban.low k.urban.high;
  rural = cell_between k.rural.low k.rural.high;
  highway = cell_between k.highway.low k.highway.high;
}
