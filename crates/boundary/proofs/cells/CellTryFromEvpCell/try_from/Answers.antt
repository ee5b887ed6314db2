-- `Cell::try_from` of what is handed in meets its contract: by the kind, 0, 1, 2, or any other.
use Rattle.std.proofs.Common.{◌≡◌, true, false, arith, ne_eqb}
use borrow.Author.Tests.{not-true, not-false}
use lib.Ieee.{eq, ne}
use Rattle.std.proofs.lemmas.Result.{err_from_is_err_and}
use Rattle.refusals.proofs.Chain.{applied, not_applied}
use Rattle.boundary.specs.Cells.{exact_handed, cell_handed}
use Rattle.boundary.proofs.cells.CellTryFromEvpCell.try_from.Goals as goal

pub returns-in_err-refuse-in-1 : goal.returns-in_err-refuse-in-1
unfolding cell_handed exact_handed ne
returns-in_err-refuse-in-1 c =
    let p = err_from_is_err_and c.from_residual.result c.from_residual.ensures.1 in
    let e = applied _ _ _ c.refuse.ensures c.in_err-refuse-in-1.was in
    let unequal : eq c.args.c.low c.args.c.high ≡ false = not-true _ e.0 in
    rw (p.1, p.2) (rw (c.in-1.is, unequal), e.1)

pub returns-in_ok-refuse-in-1 : goal.returns-in_ok-refuse-in-1
unfolding cell_handed exact_handed ne
returns-in_ok-refuse-in-1 c =
    let equal : eq c.args.c.low c.args.c.high ≡ true = not-false _ (not_applied _ _ _ c.refuse.ensures c.in_ok-refuse-in-1.was) in
    rw (c.in-1.is, equal)

pub returns-in_default : goal.returns-in_default
unfolding cell_handed
returns-in_default c =
    let kind = c.args.c.kind in
    (rw (ne_eqb kind 0 (λ e. omega arith), ne_eqb kind 1 (λ e. omega arith), ne_eqb kind 2 (λ e. omega arith)), c.cell_refusal.ensures)
