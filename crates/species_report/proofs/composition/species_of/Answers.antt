-- `species_report::composition::species_of` meets its contract: the refusal of the report, or its last word split.
-- Assumes nothing.
use mathlib.Core.Path.{refl}
use Rattle.refusals.proofs.Chain.{handed}
use Rattle.species_report.proofs.Answered.{refusal_is, head-there, last-there, species-are}
use Rattle.species_report.proofs.composition.species_of.Goals as goal

pub returns-in_err-report : goal.returns-in_err-report
returns-in_err-report c =
    rw (handed c.from_residual.result _ c.from_residual.ensures) (refusal_is c.report.ensures c.in_err-report.was)

pub rows_of-requires : goal.rows_of-requires
rows_of-requires c = head-there c.report.ensures c.in_ok-report.was

pub bounds-words-last : goal.bounds-words-last
bounds-words-last c = rw c.rows_of.ensures.0 (last-there c.report.ensures c.in_ok-report.was)

pub returns : goal.returns
returns c =
    let split = c.split.ensures in
    species-are c.report.ensures c.in_ok-report.was (rw c.rows_of.ensures.0 refl) split.0 split.1
