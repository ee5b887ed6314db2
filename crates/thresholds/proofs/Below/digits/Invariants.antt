-- `thresholds::Below::digits` meets its contract. The loop's invariant: what the digits left find from d is what all of them find from 0.
use mathlib.Core.Path.{◌≡◌}
use Prim.Native.Nat.{◌+◌, ◌-◌, ◌^◌, ◌≤◌}
use Rattle.thresholds.specs.Thresholds.{digits}
use Rattle.thresholds.proofs.Below.digits.Given as goal

abbrev pub invariant-loop-found : goal.invariant-loop-found
invariant-loop-found l = (digits l.self.mileage.kilometres l.self.whole (47 - l.found) l.d ≡ digits l.self.mileage.kilometres l.self.whole 47 0)
    × (l.d + 2 ^ (47 - l.found) ≤ 2 ^ 47)
