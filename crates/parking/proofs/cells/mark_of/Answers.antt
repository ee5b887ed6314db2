-- `parking::cells::mark_of` meets its contract.
use Rattle.exact.specs.Factors.{end_hour, duration}
use Rattle.factors.specs.Units.{start_of, end_of}
use Rattle.parking.proofs.cells.mark_of.Goals as goal

pub returns-in-Start : goal.returns-in-Start
unfolding start_of end_hour duration
returns-in-Start c = rw c.in-Start.is c.start_mark.ensures

pub returns-in-End : goal.returns-in-End
unfolding end_of end_hour
returns-in-End c = rw c.in-End.is c.start_mark-in-End.ensures
