-- The text that `species` makes of a sheet stands at the front of its buffer.
use Rattle.std.proofs.Common.{arith}
use Rattle.species_report.proofs.SpeciesPrinted.{text-first}
use Rattle.species_run.proofs.SpeciesSheetText.put.Goals as goal

pub returns-clause-put : goal.returns-clause-put
returns-clause-put c = rw c.length_of.ensures (rw c.requires.0 at (text-first c.species_text.ensures.call (omega arith)))
