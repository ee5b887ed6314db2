-- `checks::rows::rows_check` meets its contract: every row before i has passed, and their vehicles are counted.
-- Assumes nothing.
use mathlib.Core.Path.{◌≡◌}
use Prim.Native.Nat.{◌*◌, ◌^◌, ◌≤◌}
use Rattle.refusals.specs.Check.{Pass, each}
use Rattle.sheet.specs.Sheet.{row_check}
use Rattle.sheet.specs.RunningSums.{vehicles_before}
use Rattle.checks.proofs.rows.rows_check.Given as goal

abbrev pub invariant-loop-i : goal.invariant-loop-i
invariant-loop-i l =
    (each (row_check l.seasons.sheet.now) l.i ≡ Pass) × (l.before ≡ vehicles_before l.seasons.sheet.now l.i) × (l.before ≤ l.i * 2 ^ 32)
