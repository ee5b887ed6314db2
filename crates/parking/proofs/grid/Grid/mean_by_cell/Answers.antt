-- `parking::grid::Grid::mean_by_cell` meets its contract: the sum over the cells, divided by that of the counts.
use Rattle.std.proofs.Common.{arith}
use Rattle.numbers.specs.Lists.{at}
use Rattle.parking.proofs.Weighted.{cell-fits, cell-mean}
use Rattle.parking.proofs.grid.Grid.mean_by_cell.Goals as goal

pub weighted-requires : goal.weighted-requires
weighted-requires c = (omega arith, cell-fits c.args.self.now.cells.in_range (at c.args.values.now) c.requires.at_most)

pub returns : goal.returns
returns c = let grid = c.args.self.now in cell-mean grid.cells.in_range _ c.weighted.ensures grid.sum_is
