-- `map_rows::cells_of_row` meets its contract.
use Rattle.std.proofs.Common.{◌≡◌}
use Rattle.std.proofs.lemmas.Result.{err_from_is_err_and}
use Rattle.map_shares.specs.declared.Words.{Words}
use Rattle.map_shares.specs.declared.Travel.{Travel}
use Rattle.map_rows.specs.Promise.{RowCellsPromise}
use Rattle.map_rows.specs.Rows.{RowCellsAnswer, row_cells_answer}
use Rattle.map_rows.proofs.Promised.{promised}
use Rattle.map_rows.proofs.SharedOut.{answer-travel, answer-words, answer-cells}
use Rattle.map_rows.proofs.cells_of_row.Goals as goal

-- an answer that is the row's keeps its promise
kept : {w : Words} {t : Travel} {r : RowCellsAnswer} → r ≡ row_cells_answer w t → (r ≡ row_cells_answer w t) × RowCellsPromise w t r
kept e = (e, promised _ _ _ e)

pub returns-in_err-travel : goal.returns-in_err-travel
returns-in_err-travel c =
    let p = err_from_is_err_and c.from_residual.result c.from_residual.ensures.1 in
    kept (rw (p.1, p.2, c.in_err-travel.ensures.1) (answer-travel _ _ c.in_err-travel.ensures.0))

pub returns-in_err-words : goal.returns-in_err-words
returns-in_err-words c =
    let p = err_from_is_err_and c.from_residual-in_err-words.result c.from_residual-in_err-words.ensures.1 in
    kept (rw (p.1, p.2, c.in_err-words.ensures.1) (answer-words _ _ c.in_ok-travel.ensures.1 c.in_err-words.ensures.0))

pub returns : goal.returns
returns c =
    let shares = rw (c.in_ok-words.ensures.0, c.in_ok-travel.ensures.0) at c.row_shares.ensures.0 in
    kept (answer-cells _ _ _ c.in_ok-travel.ensures.1 c.in_ok-words.ensures.1 shares c.share_out.ensures)
