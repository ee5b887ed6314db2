-- `program::write_answer` meets its contract: it ends with the status of what it wrote, or where not all of that was taken with 2.
use Rattle.program.specs.Writes.{all-written, part-written}
use Rattle.program.proofs.write_answer.Goals as goal

pub returns-then-write_text-clause-written : goal.returns-then-write_text-clause-written
returns-then-write_text-clause-written g c = all-written (c.write_text.ensures.writes.whole c.if-write_text.true)

pub returns-clause-written : goal.returns-clause-written
returns-clause-written g c = part-written (c.write_text.ensures.writes.part c.if-write_text.false)
