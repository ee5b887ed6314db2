-- The text that `report` makes of a sheet stands at the front of its buffer.
use Rattle.std.proofs.Common.{arith}
use Rattle.report_text.proofs.SheetText.{text-first}
use Rattle.report_run.proofs.ReportSheetText.put.Goals as goal

pub returns-clause-put : goal.returns-clause-put
returns-clause-put c = rw c.length_of.ensures (rw c.requires.0 at (text-first c.report_text.ensures.call (omega arith)))
