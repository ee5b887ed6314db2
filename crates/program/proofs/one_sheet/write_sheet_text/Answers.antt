-- `program::one_sheet::write_sheet_text` meets its contract: what it hands on to be written is the text of what was read.
use Rattle.program.specs.Ends.{answered}
use Rattle.program.proofs.one_sheet.write_sheet_text.Goals as goal

pub returns-clause-ran : goal.returns-clause-ran
returns-clause-ran g c =
    answered _ (rw c.requires.0 at c.args.input.now.is_taken) (rw (c.status_of.ensures, c.requires.1) at c.write_answer.ensures.written)
