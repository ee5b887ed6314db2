-- `program::sources::Program::read_sheet` meets its contract: the arguments name no sheet, or a read says what became of it.
use Rattle.program.specs.Reads.{missed}
use Rattle.program.proofs.sources.Program.read_sheet.Goals as goal

pub fail-requires-then-has_argument-is_option : goal.fail-requires-then-has_argument-is_option
fail-requires-then-has_argument-is_option g c = missed _
