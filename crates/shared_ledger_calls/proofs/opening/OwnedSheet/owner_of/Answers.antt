-- `shared_ledger_calls::opening::OwnedSheet::owner_of` meets its contract.
-- Assumes nothing.
use native.Mathlib.Omega.{arith}
use Rattle.shared_ledger.proofs.Holdings.{owner-there, owner-absent}
use Rattle.shared_ledger_calls.proofs.opening.OwnedSheet.owner_of.Goals as goal

pub returns-then-rows-row : goal.returns-then-rows-row
returns-then-rows-row c = owner-absent _ _ _ (omega arith)

pub returns : goal.returns
returns c =
    let x = c.args in
    rw (owner-there x.self.now.sheet.bytes.now x.self.now.owners.now x.row (omega arith)) c.owner_at.ensures
