-- `parking::walk::column` meets its contract: the first durations hold what passed in their parkings, and what is carried is the last of
-- these, in one step for each.
use mathlib.Core.Path.{◌≡◌}
use Prim.Native.Nat.{ℕ, suc}
use Rattle.numbers.specs.Lists.{at}
use Rattle.numbers.proofs.Lists.{Filled}
use Rattle.marks.specs.Marks.{passed}
use Rattle.parking.proofs.walk.column.Given as goal

abbrev pub invariant-loop-d : goal.invariant-loop-d
invariant-loop-d l = Filled (λ (k : ℕ). passed (at l.values) l.hour (suc k)) 24 l.d l.out × (l.carried.passed ≡ passed (at l.values) l.hour l.d)
    × (l.carried.steps ≡ l.d)
