-- `fields::counts_at` meets its contract: the counts stored and those left are the list.
-- Assumes nothing.
use mathlib.Core.List.{◌++◌}
use mathlib.Core.Path.{◌≡◌}
use lib.ListN.{length, take}
use Rattle.sheet.specs.Bytes.{counts_at}
use Rattle.sheet.proofs.Counts.{left}
use Rattle.fields.proofs.counts_at.Given as goal

abbrev pub invariant-loop-i : goal.invariant-loop-i
invariant-loop-i g l = (length l.x-items ≡ g.row.N) × (take l.i l.x-items ++ left l.s l.p g.row.N l.i ≡ counts_at l.s l.p g.row.N)
