-- `species_report::lines::write_species` meets its contract: the name, the milligrams and the line feed.
-- Assumes nothing.
use Rattle.text.proofs.Putting.{◌and◌}
use Rattle.species_report.proofs.lines.write_species.Goals as goal

pub returns : goal.returns
returns c = c.text.ensures and c.text-2.ensures and c.number.ensures and c.text-3.ensures
