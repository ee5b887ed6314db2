-- `season_findings::seasons_finding` meets its contract: nothing is found in the seasons before i, and `before` is the sum of their days.
-- Assumes nothing.
use mathlib.Core.Path.{◌≡◌}
use Prim.Native.Nat.{◌*◌, ◌≤◌}
use Rattle.sheet.specs.RunningSums.{days_before}
use Rattle.findings.specs.Lines.{none_found, each_finding}
use Rattle.findings.specs.Table.{season_finding}
use Rattle.season_findings.proofs.seasons_finding.Given as goal

abbrev pub invariant-loop-i : goal.invariant-loop-i
invariant-loop-i l = (each_finding (season_finding l.s) l.i ≡ none_found) × (l.before ≡ days_before l.s l.i) × (l.before ≤ 65536 * l.i)
