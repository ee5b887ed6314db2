-- `parking::walk::walk` meets its contract: the first end hours have their columns, in 24 steps each.
use mathlib.Core.Path.{◌≡◌}
use Prim.Native.Nat.{◌*◌}
use lib.ListN.{length, take}
use Rattle.parking.specs.Walk.{walked}
use Rattle.parking.proofs.walk.walk.Given as goal

abbrev pub invariant-loop-hour : goal.invariant-loop-hour
invariant-loop-hour l = (length l.passed ≡ 576) × (take (24 * l.hour) l.passed ≡ walked l.values l.hour) × (l.steps ≡ 24 * l.hour)
