-- `fields::counts_at` meets its contract: the counts stored and those left are the list.
-- Assumes nothing.
use native.Mathlib.Omega.{arith}
use lib.ListN.{length-set}
use Rattle.sheet.proofs.Counts.{stored_more, stored-all}
use Rattle.fields.proofs.counts_at.Goals as goal

pub loop-i-preserved : goal.loop-i-preserved
loop-i-preserved g c =
    let l = c.loop-i in (
      simp length-set l.invariant.0,
      stored_more _ l.x-items _ g.row.N l.i _ (omega arith) (omega arith) l.invariant.1 c.u16_at.ensures.0,
    )

pub returns : goal.returns
returns g c = let l = c.loop-i in stored-all _ _ _ g.row.N l.i (omega arith) (omega arith) l.invariant.1
