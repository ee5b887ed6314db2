-- `species_report::lines::SpeciesLines` writes the line of the total, and after i turns the lines of the first i species.
-- Assumes nothing.
use Rattle.std.proofs.Common.{rules}
use mathlib.Core.List.{List, ◌++◌}
use mathlib.Core.Path.{◌∙◌, ap}
use Prim.Native.Nat.{ℕ}
use native.Mathlib.Omega.{arith}
use Rattle.text.proofs.Putting.{◌and◌, put-none, put_same}
use Rattle.speciation.specs.Table.{alkanes, alkenes, alkines, aromatics, table, names}
use Rattle.species_report.specs.Lines.{name_at, species_lines, composition_lines, total_line}
use Rattle.species_report.proofs.SpeciesLaws.{named, species-behind}
use Rattle.species_report.proofs.lines.SpeciesLinesLines.write.Goals as goal

pub loop-i-init : goal.loop-i-init
unfolding species_lines
loop-i-init c = put-none c.pair.ensures

pub loop-i-preserved : goal.loop-i-preserved
unfolding name_at names table alkanes alkenes alkines aromatics
loop-i-preserved c =
    put_same (c.loop-i.invariant and c.write_species.ensures)
    (species-behind c.args.self.now.composition.milligrams c.loop-i.i c.loop-i-test.true (c.as_bytes.ensures.value ∙ search (rules, named)))

pub returns : goal.returns
unfolding composition_lines total_line
returns c =
    let l = c.args.self.now in
    let lines : ℕ → List ℕ = λ n. total_line l.version l.composition.total ++ species_lines l.composition.milligrams n in
    put_same (c.pair.ensures and c.loop-i.invariant) (ap lines {x = c.loop-i.i} {y = 29} (omega arith))
