-- `shared_ledger_calls::opening::OwnedSheet::may_read` meets its contract.
-- Assumes nothing.
use mathlib.Core.Path.{refl, sym, ap, ◌∙◌}
use Rattle.shared_ledger.specs.declared.Caller.{Caller}
use Rattle.shared_ledger.specs.Caller.{who_of}
use Rattle.shared_ledger.specs.Calls.{may_read}
use Rattle.shared_ledger_calls.proofs.Outcome.{owns-reads}
use Rattle.shared_ledger_calls.proofs.opening.OwnedSheet.may_read.Goals as goal

pub returns-in-Marker : goal.returns-in-Marker
unfolding may_read who_of
returns-in-Marker c = rw c.in-Marker.is refl

pub returns-in-Participant : goal.returns-in-Participant
unfolding who_of
returns-in-Participant c =
    let x = c.args in
    let s = x.self.now.sheet.bytes.now in
    let owners = x.self.now.owners.now in
    let p = c.in-Participant in
    c.owns.ensures ∙ owns-reads s owners p.number.value x.row p.number.ok ∙
    ap (λ (who : Caller). may_read s owners (who_of who) x.row) (sym p.is)
