-- `shared_ledger_calls::opening::OwnedSheet::of` meets its contract: the sheet opens, and each row's owner has their share.
-- Assumes nothing.
use mathlib.Core.Path.{refl, sym, ◌∙◌}
use Rattle.refusals.proofs.Chain.{hands_on}
use Rattle.report_words.specs.Categories.{report_length}
use Rattle.inventory.specs.ReportAnswers.{report_check}
use Rattle.shared_ledger.specs.Opening.{shared_check}
use Rattle.shared_ledger_calls.proofs.opening.OwnedSheet.of.Goals as goal

pub returns : goal.returns
unfolding shared_check report_check
returns c =
    let (same, opens) = c.in_ok-sheet.ensures report_length (λ sheet n p. p.1.0) in
    let shares = rw same at (sym c.shares_check.ensures ∙ c.in_ok-shares_check.was) in
    (same, refl, hands_on _ _ opens ∙ shares)
