-- `row_findings::rows_finding` meets its contract: nothing is found in the rows before i, and their vehicles are counted.
-- Assumes nothing.
use mathlib.Core.Path.{◌≡◌}
use Prim.Native.Nat.{◌*◌, ◌^◌, ◌≤◌}
use Rattle.sheet.specs.RunningSums.{vehicles_before}
use Rattle.findings.specs.Lines.{none_found, each_finding}
use Rattle.findings.specs.Table.{row_finding}
use Rattle.row_findings.proofs.rows_finding.Given as goal

abbrev pub invariant-loop-i : goal.invariant-loop-i
invariant-loop-i l = (each_finding (row_finding l.seasons.sheet.now) l.i ≡ none_found) ×
    (l.before ≡ vehicles_before l.seasons.sheet.now l.i) × (l.before ≤ l.i * 2 ^ 32)
