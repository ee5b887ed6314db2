-- `map_cells::sums::add_cells` meets its contract.
use Rattle.std.proofs.Common.{◌≡◌, ◌∙◌}
use Rattle.std.proofs.lemmas.Result.{err_from_is_err_and}
use Rattle.map_cells.specs.declared.Cell.{Cell}
use Rattle.map_cells.specs.Sums.{CellAnswer, masses_sum, cell_sum}
use Rattle.map_cells.specs.Promise.{SumPromise}
use Rattle.map_cells.proofs.Promised.{promised}
use Rattle.map_cells.proofs.sums.add_cells.Goals as goal

-- an answer that is the sum keeps its promise
kept : {a b : Cell} {r : CellAnswer} → r ≡ cell_sum a b → (r ≡ cell_sum a b) × SumPromise a b r
kept {a} {b} e = (e, promised a b e)

pub returns-in_err-first : goal.returns-in_err-first
unfolding cell_sum masses_sum
returns-in_err-first c =
    let p = err_from_is_err_and c.from_residual.result c.from_residual.ensures.1 in
    kept (rw (p.1, p.2, c.in_err-first.ensures.0, c.in_err-first.ensures.1))

pub returns-in_err-second : goal.returns-in_err-second
unfolding cell_sum masses_sum
returns-in_err-second c =
    let p = err_from_is_err_and c.from_residual-in_err-second.result c.from_residual-in_err-second.ensures.1 in
    kept (rw (p.1, p.2, c.in_ok-first.ensures, c.in_err-second.ensures.0, c.in_err-second.ensures.1))

pub returns : goal.returns
unfolding cell_sum
returns c = kept (c.add_masses.ensures ∙ rw (c.in_ok-first.ensures, c.in_ok-second.ensures))
