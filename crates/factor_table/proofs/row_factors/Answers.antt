-- `factor_table::row_factors` meets its contract: the answer is a function of the bytes and the two numbers, and is what is promised.
use mathlib.Core.Path.{refl, ◌∙◌, ap}
use mathlib.Core.List.{List, map}
use Rattle.std.proofs.lemmas.Result.{err_from_is_err_and}
use Rattle.sheet.specs.Sheet.{outside}
use Rattle.inventory.specs.FactorAnswers.{band}
use Rattle.inventory.proofs.CallConditions.{bytes-of, asked-there}
use Rattle.factor_table.proofs.SevenBands.{bands-are}
use Rattle.factor_table.proofs.RowPromise.{row-promised, refused-is, passed_is}
use Rattle.factor_table.proofs.row_factors.Goals as goal

pub returns-in_err-asked : goal.returns-in_err-asked
returns-in_err-asked c =
    let p = err_from_is_err_and c.from_residual.result c.from_residual.ensures.1 in
    row-promised _ _ _ (bytes-of c.type_inv.s) (refused-is _ _ _ (bytes-of c.type_inv.s) (c.in_err-asked.ensures 1) (rw (p.1, p.2) refl))

pub returns : goal.returns
unfolding outside
returns c =
    let (same, season, row) = c.in_ok-asked.ensures in
    let there = asked-there c.in_ok-asked.asked (same, season, row) 1 refl in
    let made = c.of_each.ensures ∙ ap (λ (units : List _). map band units) (rw (same, season, row) at c.units.ensures) ∙ bands-are _ _ _ in
    row-promised _ _ _ (bytes-of c.type_inv.s) (passed_is _ _ _ (bytes-of c.type_inv.s) there made refl)
