-- `parking::cells::Cells::by_distance` meets its contract: the distances hold the tally of the first cells.
use Rattle.std.proofs.Common.{◌≡◌}
use Rattle.parking.specs.Grid.{is_end, apart_of, tally}
use Rattle.parking.proofs.cells.Cells.by_distance.Given as goal

abbrev pub invariant-loop-cell : goal.invariant-loop-cell
invariant-loop-cell l = l.out ≡ tally 25 (apart_of (is_end l.moment)) l.self.counts l.cell
