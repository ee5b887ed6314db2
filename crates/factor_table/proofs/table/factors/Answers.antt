-- `factor_table::table::factors` meets its contract: a refusal leaves the buffer, and an accepted call stores what is promised.
use mathlib.Core.Path.{refl, sym, ◌∙◌}
use Rattle.refusals.proofs.Chain.{handed}
use Rattle.inventory.specs.ReportCall.{written}
use Rattle.inventory.proofs.CallConditions.{bytes-of, has-room}
use Rattle.factor_table.specs.Factors.{factors_length, factors_check}
use Rattle.factor_table.proofs.TablePromise.{factors-answer}
use Rattle.factor_table.proofs.table.factors.Goals as goal

pub returns-in_err-sheet : goal.returns-in_err-sheet
unfolding written factors_check
returns-in_err-sheet c =
    let refused = handed c.from_residual.result _ c.from_residual.ensures in
    factors-answer (bytes-of c.type_inv.s) (refused ∙ sym (c.in_err-sheet.ensures factors_length (λ sheet n p. p.1))) (rw refused refl)

pub all_factors-requires : goal.all_factors-requires
all_factors-requires c = has-room factors_length (c.in_ok-sheet.ensures factors_length (λ sheet n p. p.1))

pub returns : goal.returns
unfolding factors_check
returns c =
    let (same, passed) = c.in_ok-sheet.ensures factors_length (λ sheet n p. p.1) in
    factors-answer (bytes-of c.type_inv.s) (sym passed) (rw same at c.all_factors.ensures)
