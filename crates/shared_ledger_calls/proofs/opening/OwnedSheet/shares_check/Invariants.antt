-- `shared_ledger_calls::opening::OwnedSheet::shares_check` meets its contract: every row before i has passed, and each holding is of those rows.
-- Assumes nothing.
use mathlib.Core.Path.{◌≡◌}
use Rattle.refusals.specs.Check.{Pass, each}
use Rattle.shared_ledger.specs.Opening.{share_check}
use Rattle.shared_ledger_calls.proofs.Tallies.{Holdings}
use Rattle.shared_ledger_calls.proofs.opening.OwnedSheet.shares_check.Given as goal

abbrev pub invariant-loop-i : goal.invariant-loop-i
invariant-loop-i l = (each (share_check l.self.sheet.bytes.now l.self.owners.now) l.i ≡ Pass) × Holdings l.self.sheet.bytes.now
    l.self.owners.now l.i l.holdings
