-- `parking::cells::Cells::by_distance` meets its contract: the distances hold the tally of the first cells.
use Rattle.std.proofs.Common.{ap, ◌≤◌, arith}
use Rattle.numbers.specs.Lists.{at, sum}
use Rattle.parking.specs.Grid.{is_end, apart_of}
use Rattle.parking.proofs.Sums.{total-is, sum-within}
use Rattle.parking.proofs.Tally.{apart_of-below, tally-le, tally-none, tally-more}
use Rattle.parking.proofs.cells.Cells.by_distance.Goals as goal

pub overflow_add-out : goal.overflow_add-out
overflow_add-out c =
    let l = c.loop-cell in
    let d = c.apart_of-d.result in
    let cells = c.args.self.now.counts in
    let r = c.args.self.now.in_range in
    let old : at l.out d ≤ sum (at cells) l.cell
    = rw l.invariant (tally-le 25 (apart_of (is_end c.args.moment)) cells (apart_of-below (is_end c.args.moment)) l.cell d) in
    omega (arith, total-is cells, ap (sum (at cells)) r.length-is, sum-within (at cells) {k = l.cell} {n = 576} (omega arith), r.total-most)

pub loop-cell-preserved : goal.loop-cell-preserved
loop-cell-preserved c =
    let l = c.loop-cell in
    rw (c.apart_of-d.ensures.0, l.invariant) (tally-more _ _ _ l.cell)

pub loop-cell-init : goal.loop-cell-init
loop-cell-init c = tally-none _ _ _
