-- `program::one_sheet::print_sheet` meets its contract: it hands on what was read, all of it, or ends where that could not be read.
use Rattle.program.specs.Ends.{unread}
use Rattle.program.proofs.Printing.{unread_prints}
use Rattle.program.proofs.one_sheet.print_sheet.Goals as goal

pub returns-in-Err-clause-ran : goal.returns-in-Err-clause-ran
returns-in-Err-clause-ran g c = unread c.in-Err.ensures.read.unread

pub returns-in-Err-clause-prints : goal.returns-in-Err-clause-prints
returns-in-Err-clause-prints g c = unread_prints _ _ _
