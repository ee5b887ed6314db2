-- `report_sums::sum_of` meets its contract: the sum is that of the rows passed, in 64 bits.
-- Assumes nothing.
use Rattle.std.proofs.Common.{arith}
use Rattle.report_words.specs.Categories.{category}
use Rattle.report_sums.specs.Numbers.{number}
use Rattle.report_sums.proofs.BufferSums.{sum_more, sum_same}
use Rattle.report_sums.proofs.sum_of.Goals as goal
use Rattle.report_sums.proofs.sum_of.Goals.{then-belongs, else-belongs}

-- one row more: its word where it belongs to the category, and 0 where not
pub loop-i-preserved : goal.loop-i-preserved
loop-i-preserved c =
    let l = c.loop-i in
    let x = c.args in
    elim c.if-belongs.branch [
      | then-belongs w ↦
          rw w.sum-is (sum_more x.sheet.bytes.now x.rows.now (category (number x.c)) l.i x.j l.sum l.invariant
          (cc (c.belongs.ensures, w.if-belongs.true)))
      | else-belongs w ↦
          rw w.sum-is (omega (
            arith,
            sum_same x.sheet.bytes.now x.rows.now (category (number x.c)) l.i x.j l.sum l.invariant
                (cc (c.belongs.ensures, w.if-belongs.false)),
          ))
    ]
