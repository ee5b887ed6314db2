-- `inventory::factor` meets its contract: the answer is a function of the bytes and the three numbers, and is what document 01 promises.
-- Assumes nothing.
use mathlib.Core.Path.{◌∙◌}
use Rattle.refusals.proofs.Chain.{handed}
use Rattle.inventory.proofs.CallConditions.{bytes-of, asked-absent, asked-there}
use Rattle.inventory.proofs.FactorPromise.{refusal_is, band-is, promised}
use Rattle.inventory.proofs.factor.Goals as goal

pub returns-in_err-asked : goal.returns-in_err-asked
returns-in_err-asked c =
    let refused = handed c.from_residual.result _ c.from_residual.ensures in
    promised _ _ _ _ (bytes-of c.type_inv.s) (refused ∙ refusal_is _ _ _ _ (bytes-of c.type_inv.s) (c.in_err-asked.ensures c.args.k))

pub returns-in_err-factor : goal.returns-in_err-factor
returns-in_err-factor c =
    let (refusal, outside) = c.in_err-factor.ensures in
    let refused = handed c.from_residual-in_err-factor.result _ c.from_residual-in_err-factor.ensures in
    promised _ _ _ _ (bytes-of c.type_inv.s) (refused ∙ rw refusal (refusal_is _ _ _ _ (bytes-of c.type_inv.s)
    (asked-absent c.in_ok-asked.asked c.in_ok-asked.ensures c.args.k outside)))

pub returns : goal.returns
returns c =
    let (same, season, row) = c.in_ok-asked.ensures in
    let (number, inside) = c.in_ok-factor.ensures in
    let there = asked-there c.in_ok-asked.asked (same, season, row) c.args.k inside in
    promised _ _ _ _ (bytes-of c.type_inv.s) (band-is _ _ _ _ (bytes-of c.type_inv.s) there (rw (same, season, row, number) at c.band_of.ensures))
