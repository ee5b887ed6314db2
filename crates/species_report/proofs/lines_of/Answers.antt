-- `species_report::lines_of` meets its contract: the version of the sheet and its species, or the refusal.
-- Assumes nothing.
use native.Mathlib.Omega.{arith}
use Rattle.refusals.proofs.Chain.{handed}
use Rattle.species_report.proofs.SpeciesPrinted.{refusal_is, refusal-short, lines-made, lines-short}
use Rattle.species_report.proofs.SpeciesSizes.{masses-words}
use Rattle.species_report.proofs.lines_of.Goals as goal

pub returns-in_err-composition-clause-text : goal.returns-in_err-composition-clause-text
returns-in_err-composition-clause-text c =
    rw (handed c.from_residual.result _ c.from_residual.ensures, c.in_err-composition.was)
    (refusal_is c.args.s.now c.in_err-composition.field-0.0)

pub returns-in_err-composition-clause-most : goal.returns-in_err-composition-clause-most
returns-in_err-composition-clause-most c =
    rw c.in_err-composition.was (refusal-short c.args.s.now c.in_err-composition.field-0.0 (omega arith))

pub version_of-requires : goal.version_of-requires
version_of-requires c = (c.requires c.in_ok-composition.composition c.in_ok-composition.was).0

pub returns-clause-text : goal.returns-clause-text
returns-clause-text c = rw c.in_ok-composition.was (lines-made c.args.s.now c.in_ok-composition.composition c.version_of.ensures)

pub returns-clause-most : goal.returns-clause-most
returns-clause-most c =
    let found = c.in_ok-composition.composition in
    let each = masses-words (c.requires found c.in_ok-composition.was).1 (omega arith) in
    rw c.in_ok-composition.was (lines-short c.args.s.now found c.version_of.ensures each (omega arith) (omega arith))
