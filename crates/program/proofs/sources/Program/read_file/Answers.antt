-- `program::sources::Program::read_file` meets its contract: the file cannot be opened, or `read` says what became of it.
use Rattle.program.specs.Reads.{missed}
use Rattle.program.proofs.sources.Program.read_file.Goals as goal

pub cannot-requires : goal.cannot-requires
cannot-requires g c = missed _
