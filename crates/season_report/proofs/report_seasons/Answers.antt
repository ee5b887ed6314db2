-- `season_report::report_seasons` meets its contract: a refusal leaves the buffer, and an accepted call stores what is promised.
use mathlib.Core.Path.{refl, sym, ◌∙◌}
use Rattle.refusals.proofs.Chain.{handed}
use Rattle.inventory.specs.ReportCall.{written}
use Rattle.inventory.proofs.CallConditions.{bytes-of, has-room}
use Rattle.season_report.specs.Seasons.{seasons_length, seasons_check}
use Rattle.season_report.proofs.SeasonsPromise.{seasons-answer}
use Rattle.season_report.proofs.report_seasons.Goals as goal

pub returns-in_err-sheet : goal.returns-in_err-sheet
unfolding written seasons_check
returns-in_err-sheet c =
    let refused = handed c.from_residual.result _ c.from_residual.ensures in
    seasons-answer (bytes-of c.type_inv.s) (refused ∙ sym (c.in_err-sheet.ensures seasons_length (λ sheet n p. p.1))) (rw refused refl)

pub write_seasons-requires : goal.write_seasons-requires
write_seasons-requires c = has-room seasons_length (c.in_ok-sheet.ensures seasons_length (λ sheet n p. p.1))

pub returns : goal.returns
unfolding seasons_check
returns c =
    let (same, passed) = c.in_ok-sheet.ensures seasons_length (λ sheet n p. p.1) in
    seasons-answer (bytes-of c.type_inv.s) (sym passed) (rw same at c.write_seasons.ensures)
