-- `parking::cells::Cells::total` meets its contract: the sum so far is that of the first cells.
use Rattle.std.proofs.Common.{refl, sym, ◌∙◌, ap, arith}
use Rattle.numbers.specs.Lists as lists
use Rattle.numbers.specs.Lists.{at}
use Rattle.numbers.proofs.Lists.{sum-none, sum_more, sum-all}
use Rattle.parking.proofs.Sums.{total-is, sum-within}
use Rattle.parking.proofs.cells.Cells.total.Goals as goal

pub overflow_add-sum : goal.overflow_add-sum
overflow_add-sum c =
    let cells = c.args.self.now in
    let l = c.loop-cell in
    let r = cells.in_range in
    omega (
      arith,
      total-is cells.counts,
      ap (lists.sum (at cells.counts)) r.length-is,
      sum-within (at cells.counts) {k = l.cell} {n = 576} (omega arith),
      r.total-most,
    )

pub loop-cell-init : goal.loop-cell-init
loop-cell-init c = sum-none _

pub loop-cell-preserved : goal.loop-cell-preserved
loop-cell-preserved c = sum_more _ _ c.loop-cell.invariant refl

pub returns : goal.returns
returns c =
    let cells = c.args.self.now in
    sum-all _ _ 576 c.loop-cell.invariant (omega arith) (omega arith) ∙
    ap (lists.sum (at cells.counts)) (sym cells.in_range.length-is) ∙ sym (total-is cells.counts)
