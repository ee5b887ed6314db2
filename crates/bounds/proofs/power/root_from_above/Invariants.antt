-- `bounds::power::root_from_above` meets its contract. The loop's invariant: x < (r + 1)². The measure is r, which falls while r² is above x.
use Prim.Native.Nat.{◌+◌, ◌*◌, ◌^◌, ◌<◌}
use Rattle.bounds.proofs.power.root_from_above.Given as goal

abbrev pub invariant-loop-r : goal.invariant-loop-r
invariant-loop-r l = (l.x < (l.r + 1) * (l.r + 1)) × (0 < l.r) × (l.r < 2 ^ 32)

abbrev pub decreases-loop-r : goal.decreases-loop-r
decreases-loop-r l = l.r
