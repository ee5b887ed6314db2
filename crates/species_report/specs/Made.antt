-- Need not be believed: the text of what the lines of a sheet's species are made from.
use Rattle.std.specs.Prelude.{List, ℕ, ⊤}
use Rattle.species_report.specs.declared.lines.SpeciesLines.{SpeciesLines}
use Rattle.species_report.specs.Lines.{composition_lines}

-- nothing more is needed
abbrev pub LinesThere : SpeciesLines → Type 0
LinesThere l = ⊤

abbrev pub lines_text : SpeciesLines → List ℕ
lines_text l = composition_lines l.version l.composition.total l.composition.milligrams
