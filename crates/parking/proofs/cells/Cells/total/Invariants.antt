-- `parking::cells::Cells::total` meets its contract: the sum so far is that of the first cells.
use Rattle.std.proofs.Common.{◌≡◌}
use Rattle.numbers.specs.Lists as lists
use Rattle.numbers.specs.Lists.{at}
use Rattle.parking.proofs.cells.Cells.total.Given as goal

abbrev pub invariant-loop-cell : goal.invariant-loop-cell
invariant-loop-cell l = l.sum ≡ lists.sum (at l.self.counts) l.cell
