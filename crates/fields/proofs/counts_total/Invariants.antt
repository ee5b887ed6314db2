-- `fields::counts_total` meets its contract: the sum so far and that of the counts left are the whole.
-- Assumes nothing.
use mathlib.Core.Path.{◌≡◌}
use Prim.Native.Nat.{◌+◌, ◌*◌, ◌≤◌}
use Rattle.exact.specs.Factors.{total}
use Rattle.sheet.specs.Bytes.{counts_at}
use Rattle.sheet.proofs.Counts.{left}
use Rattle.fields.proofs.counts_total.Given as goal

abbrev pub invariant-loop-i : goal.invariant-loop-i
invariant-loop-i l = (l.sum ≤ 65536 * l.i) × (l.sum + total (left l.s l.p l.n l.i) ≡ total (counts_at l.s l.p l.n))
