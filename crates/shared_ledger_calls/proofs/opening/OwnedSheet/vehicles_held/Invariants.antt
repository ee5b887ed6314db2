-- `shared_ledger_calls::opening::OwnedSheet::vehicles_held` meets its contract.
-- Assumes nothing.
use mathlib.Core.Path.{◌≡◌}
use Prim.Native.Nat.{◌*◌, ◌^◌, ◌≤◌}
use Rattle.std.specs.Int.NonZero.{non_zero_u64_get}
use Rattle.shared_ledger.specs.Opening.{vehicles_held}
use Rattle.shared_ledger_calls.proofs.opening.OwnedSheet.vehicles_held.Given as goal

abbrev pub invariant-loop-i : goal.invariant-loop-i
invariant-loop-i l = (l.sum ≤ l.i * 2 ^ 32) × (l.sum ≡ vehicles_held l.self.sheet.bytes.now l.self.owners.now (non_zero_u64_get l.who) l.i)
