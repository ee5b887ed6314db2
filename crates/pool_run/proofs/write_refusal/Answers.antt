-- `pool_run::write_refusal` meets its contract: it ends as a refusal that was written, or where not all of it was taken with 2.
use Rattle.program.specs.Writes.{all-written, part-written}
use Rattle.pool_run.proofs.write_refusal.Goals as goal

pub returns-then-write_text-clause-written : goal.returns-then-write_text-clause-written
returns-then-write_text-clause-written g c = all-written (rw c.put_line.ensures at (c.write_text.ensures.writes.whole c.if-write_text.true))

pub returns-clause-written : goal.returns-clause-written
returns-clause-written g c = part-written (rw c.put_line.ensures at (c.write_text.ensures.writes.part c.if-write_text.false))
