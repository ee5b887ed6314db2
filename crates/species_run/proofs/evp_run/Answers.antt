-- `species_run::evp_run` meets its contract: what is printed of a front of the source is what is printed of all of it.
use Rattle.program.proofs.Printing.{prints}
use Rattle.species_run.proofs.Front.{of_front}
use Rattle.species_run.proofs.evp_run.Goals as goal

pub returns-clause-prints : goal.returns-clause-prints
returns-clause-prints g c = prints of_front _ _ _ _ c.print_sheet.ensures.prints
