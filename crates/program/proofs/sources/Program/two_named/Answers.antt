-- `program::sources::Program::two_named` meets its contract: the arguments are not two.
use Rattle.program.specs.Reads.{missed}
use Rattle.program.proofs.sources.Program.two_named.Goals as goal

pub fail-requires : goal.fail-requires
fail-requires g c = missed _
