-- `pooling_calls::pair::Pair::fleet_check` meets its contract: every row before i has passed, and their vehicles are counted.
-- Assumes nothing.
use mathlib.Core.Path.{◌≡◌}
use Prim.Native.Nat.{◌+◌, ◌*◌, ◌^◌, ◌≤◌}
use Rattle.refusals.specs.Check.{Pass, each}
use Rattle.sheet.specs.Bytes.{rows_of}
use Rattle.sheet.specs.RunningSums.{vehicles_before}
use Rattle.pooling.specs.Late.{fleet_check}
use Rattle.pooling_calls.proofs.pair.Pair.fleet_check.Given as goal

abbrev pub invariant-loop-i : goal.invariant-loop-i
invariant-loop-i l = (each (fleet_check l.self.first.bytes.now l.self.second.bytes.now) l.i ≡ Pass)
    × (l.vehicles ≡ vehicles_before l.self.first.bytes.now (rows_of l.self.first.bytes.now) + vehicles_before l.self.second.bytes.now l.i)
    × (l.vehicles ≤ (1000 + l.i) * 2 ^ 32)
