-- `species_report::lines::SpeciesLines` writes the line of the total, and after i turns the lines of the first i species.
-- Assumes nothing.
use Rattle.text.specs.Put.{Put}
use Rattle.species_report.specs.Lines.{species_lines}
use Rattle.species_report.proofs.lines.SpeciesLinesLines.write.Given as goal

abbrev pub invariant-loop-i : goal.invariant-loop-i
invariant-loop-i l = Put l.initial.writer (species_lines l.mass-items l.i) l.writer
