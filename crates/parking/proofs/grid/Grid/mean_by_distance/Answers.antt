-- `parking::grid::Grid::mean_by_distance` meets its contract: the sum over the distances, divided by that of the counts.
use Rattle.std.proofs.Common.{arith}
use Rattle.numbers.specs.Lists.{at}
use Rattle.parking.specs.Grid.{is_end}
use Rattle.parking.proofs.Weighted.{distance-fits, distance-mean}
use Rattle.parking.proofs.grid.Grid.mean_by_distance.Goals as goal

pub weighted-requires : goal.weighted-requires
weighted-requires c = (
  omega arith,
  rw c.by_distance.ensures
      (distance-fits c.args.self.now.cells.in_range (is_end c.args.moment) (at c.args.values.now) (λ d h. c.requires.at_most d)),
)

pub returns : goal.returns
returns c =
    let grid = c.args.self.now in
    distance-mean grid.cells.in_range (is_end c.args.moment) (at c.args.values.now) (rw c.by_distance.ensures at c.weighted.ensures) grid.sum_is
