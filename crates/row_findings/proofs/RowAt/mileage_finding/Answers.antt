-- `row_findings::RowAt::mileage_finding` meets its contract: of a sheet without mileages no later line applies.
-- Assumes nothing.
use mathlib.Core.Path.{◌≡◌, refl, sym, ◌∙◌}
use mathlib.Core.Bool.{false}
use borrow.Author.Rules.{rules}
use Rattle.sheet.specs.Versions.{has_mileage}
use Rattle.findings.specs.Table.{driven_finding, mileage_finding}
use Rattle.findings.proofs.Steps.{hands_on, ends, skipped}
use Rattle.row_findings.proofs.RowAt.mileage_finding.Goals as goal

pub returns-then-not-has_mileage : goal.returns-then-not-has_mileage
unfolding mileage_finding driven_finding
returns-then-not-has_mileage c =
    let old : has_mileage c.args.self.seasons.sheet.now ≡ false = search rules in
    rw old (c.at_most.ensures ∙ sym (ends _ _
    (hands_on _ _ (skipped _ _ _ _ refl) ∙ hands_on _ _ (skipped _ _ _ _ refl) ∙ hands_on _ _ (skipped _ _ _ _ refl) ∙ skipped _ _ _ _ refl)))
