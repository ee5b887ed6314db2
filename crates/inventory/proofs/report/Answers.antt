-- `inventory::report` meets its contract: a refusal leaves the buffer, and an accepted report is what document 01 promises.
-- Assumes nothing.
use mathlib.Core.Path.{refl, sym, ◌∙◌}
use Rattle.refusals.proofs.Chain.{handed}
use Rattle.report_words.specs.Categories.{report_length}
use Rattle.inventory.specs.ReportAnswers.{report_check}
use Rattle.inventory.specs.ReportCall.{written}
use Rattle.inventory.proofs.CallConditions.{bytes-of, has-room}
use Rattle.inventory.proofs.ReportPromise.{report-answer}
use Rattle.inventory.proofs.report.Goals as goal

pub returns-in_err-sheet : goal.returns-in_err-sheet
unfolding written report_check
returns-in_err-sheet c =
    let refused = handed c.from_residual.result _ c.from_residual.ensures in
    report-answer (bytes-of c.type_inv.s) (refused ∙ sym (c.in_err-sheet.ensures report_length (λ sheet n p. p.1.0))) (rw refused refl)

pub write_report-requires : goal.write_report-requires
write_report-requires c = has-room report_length (c.in_ok-sheet.ensures report_length (λ sheet n p. p.1.0))

pub returns : goal.returns
unfolding report_check
returns c =
    let (same, passed) = c.in_ok-sheet.ensures report_length (λ sheet n p. p.1.0) in
    report-answer (bytes-of c.type_inv.s) (sym passed) (rw same at c.write_report.ensures)
