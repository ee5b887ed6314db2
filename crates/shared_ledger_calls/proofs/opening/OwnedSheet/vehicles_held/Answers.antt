-- `shared_ledger_calls::opening::OwnedSheet::vehicles_held` meets its contract.
-- Assumes nothing.
use mathlib.Core.Path.{◌≡◌, sym, ◌∙◌}
use native.Mathlib.Omega.{arith}
use lib.Dec.{eqb}
use Rattle.numbers.specs.Lists.{at}
use Rattle.numbers.proofs.Lists.{sum-none}
use Rattle.shared_ledger.specs.Opening.{vehicles_held}
use Rattle.shared_ledger_calls.proofs.Tallies.{is-theirs, held-theirs, held-others}
use Rattle.shared_ledger_calls.proofs.opening.OwnedSheet.vehicles_held.Goals.{then-is_theirs, else-is_theirs}
use Rattle.shared_ledger_calls.proofs.opening.OwnedSheet.vehicles_held.Goals as goal

pub loop-i-init : goal.loop-i-init
unfolding vehicles_held
loop-i-init c = (omega arith, sum-none _)

pub loop-i-preserved : goal.loop-i-preserved
loop-i-preserved c =
    let l = c.loop-i in
    let x = c.args in
    let mine : c.is_theirs.result ≡ eqb (at x.self.now.owners.now l.i) x.who.value =
    is-theirs _ _ _ _ c.owner_at.ensures c.is_theirs.ensures x.who.ok in
    elim c.if-is_theirs.branch [
      | then-is_theirs w ↦ (
        omega (arith, w.sum-is, w.vehicles-sum.ensures.1, l.invariant.0),
        w.sum-is ∙ held-theirs _ _ _ l.i (sym mine ∙ w.if-is_theirs.true) l.invariant.1 w.vehicles-sum.ensures.0,
      )
      | else-is_theirs w ↦ (
        omega (arith, w.sum-is, l.invariant.0),
        w.sum-is ∙ held-others _ _ _ l.i (sym mine ∙ w.if-is_theirs.false) l.invariant.1,
      )
    ]
