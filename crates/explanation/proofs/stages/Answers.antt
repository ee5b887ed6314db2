-- `explanation::stages` meets its contract: each stage is given what the stages before it showed.
-- Assumes nothing.
use mathlib.Core.Path.{sym, ◌∙◌}
use native.Mathlib.Omega.{arith}
use Rattle.findings.proofs.Explained.{head-there, length-is}
use Rattle.explanation.proofs.stages.Goals as goal

pub numbers_finding-requires : goal.numbers_finding-requires
numbers_finding-requires c = head-there _ (sym c.mark_finding.ensures ∙ c.in_ok-mark_finding.was)

pub length_finding-requires : goal.length_finding-requires
length_finding-requires c = head-there _ (sym c.mark_finding.ensures ∙ c.in_ok-mark_finding.was)

pub parking_finding-requires : goal.parking_finding-requires
parking_finding-requires c = omega (arith, length-is _ (sym c.length_finding.ensures ∙ c.in_ok-length_finding.was))

pub seasons_finding-requires : goal.seasons_finding-requires
seasons_finding-requires c = omega (arith, length-is _ (sym c.length_finding.ensures ∙ c.in_ok-length_finding.was))

pub rows_finding-requires : goal.rows_finding-requires
rows_finding-requires c =
    let ends = length-is _ (sym c.length_finding.ensures ∙ c.in_ok-length_finding.was) in
    rw c.in_ok-seasons.ensures.0 (omega arith)
