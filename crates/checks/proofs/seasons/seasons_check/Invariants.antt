-- `checks::seasons::seasons_check` meets its contract: every season before i has passed, and `before` is the sum of their days.
-- Assumes nothing.
use mathlib.Core.Path.{◌≡◌}
use Prim.Native.Nat.{◌≤◌}
use Rattle.refusals.specs.Check.{Pass, each}
use Rattle.sheet.specs.Sheet.{season_check}
use Rattle.sheet.specs.RunningSums.{days_before}
use Rattle.checks.proofs.seasons.seasons_check.Given as goal

abbrev pub invariant-loop-i : goal.invariant-loop-i
invariant-loop-i l = (each (season_check l.s) l.i ≡ Pass) × (l.before ≡ days_before l.s l.i) × (l.before ≤ 366)
