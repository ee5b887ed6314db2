-- `species_report::species_text` meets its contract: the text of these lines is written whole.
-- Assumes nothing.
use mathlib.Core.Path.{ap, ◌∙◌}
use lib.ListN.{length}
use Rattle.species_report.proofs.Answered.{species-found}
use Rattle.species_report.proofs.SpeciesPrinted.{text-call}
use Rattle.species_report.proofs.species_text.Goals as goal

pub lines_of-requires : goal.lines_of-requires
lines_of-requires c = species-found c.species_of-found.ensures

pub returns-clause-call : goal.returns-clause-call
returns-clause-call c =
    let lines = c.lines_of.ensures in
    let whole = c.write_whole.ensures in
    text-call c.species_of-found.ensures (whole.length ∙ ap length lines.text) lines.most (rw lines.text at whole.text)
