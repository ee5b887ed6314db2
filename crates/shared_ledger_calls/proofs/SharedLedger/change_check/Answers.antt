-- `shared_ledger_calls::SharedLedger::change_check` meets its contract: the marker is refused by 30, and a participant by the first that applies.
-- Assumes nothing.
use mathlib.Core.Path.{sym, ap, ◌∙◌}
use Rattle.refusals.specs.Check.{refuse}
use Rattle.shared_ledger.specs.Caller.{who_of}
use Rattle.shared_ledger_calls.proofs.Outcome.{marker-change, participant-change}
use Rattle.shared_ledger_calls.proofs.SharedLedger.change_check.Goals as goal

pub returns-in-Marker : goal.returns-in-Marker
unfolding refuse who_of
returns-in-Marker c =
    c.refuse.ensures ∙ sym (marker-change _ _ _ _ c.in_ok-owned.ensures.2 (ap who_of c.in-Marker.is))

pub returns-in-Participant : goal.returns-in-Participant
unfolding who_of
returns-in-Participant c =
    let p = c.in-Participant in
    let (same, owners, passed) = c.in_ok-owned.ensures in
    rw (same, owners) at c.participant_check.ensures ∙ sym (participant-change _ _ _ c.args.call passed (ap who_of p.is) p.number.ok)
