-- `program::sources::Program::read_argument` meets its contract: the argument is no path, or `read_file` says what became of it.
use Rattle.program.specs.Reads.{missed}
use Rattle.program.proofs.sources.Program.read_argument.Goals as goal

pub fail-requires : goal.fail-requires
fail-requires g c = missed _

pub fail-requires-in_default-from_utf8 : goal.fail-requires-in_default-from_utf8
fail-requires-in_default-from_utf8 g c = missed _
