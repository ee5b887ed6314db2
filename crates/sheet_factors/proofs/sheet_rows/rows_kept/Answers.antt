-- `sheet_factors::sheet_rows::rows_kept` meets its contract: the first i rows have theirs.
use Rattle.std.proofs.Common.{◌≢◌, ◌∙◌, ◌<◌, length, length-set, get_or-set_other, get_or-set_same, below_more, arith}
use Rattle.sheet_factors.proofs.sheet_rows.rows_kept.Goals as goal

pub loop-i-preserved : goal.loop-i-preserved
loop-i-preserved c =
    let l = c.loop-i in
    let few : l.i < 1000 = omega (arith, c.loop-i-test.true, c.rows-rows.ensures) in
    let inside : l.i < length l.out = omega (arith, few, l.invariant.long) in
    record {
      long = length-set l.out l.i _ ∙ l.invariant.long;
      each = below_more _ _ (λ k h. let other : k ≢ l.i = omega arith in rw get_or-set_other (l.invariant.each k h))
          (rw get_or-set_same (rw c.row.ensures at c.row.result.kept_of));
    }
