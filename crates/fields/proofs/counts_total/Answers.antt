-- `fields::counts_total` meets its contract: the sum so far and that of the counts left are the whole.
-- Assumes nothing.
use borrow.Author.Rules.{rules}
use native.Mathlib.Omega.{arith}
use Rattle.sheet.proofs.Counts.{added_more, added-all}
use Rattle.fields.proofs.counts_total.Goals as goal

pub loop-i-preserved : goal.loop-i-preserved
loop-i-preserved c =
    let l = c.loop-i in
    (search rules, added_more _ _ _ l.i l.sum _ (omega arith) l.invariant.1 c.u16_at-sum.ensures.0)

pub returns : goal.returns
returns c = let l = c.loop-i in added-all _ _ _ l.i _ (omega arith) l.invariant.1
