-- `row_findings::rows_finding` meets its contract: nothing is found in the rows before i, and their vehicles are counted.
-- Assumes nothing.
use native.Mathlib.Omega.{arith}
use Rattle.sheet.proofs.Versions.{start_between}
use Rattle.sheet.proofs.Fleet.{vehicles-none, vehicles-more}
use Rattle.findings.proofs.Steps.{each_none, each_more}
use Rattle.row_findings.proofs.rows_finding.Goals as goal

pub loop-i-init : goal.loop-i-init
loop-i-init c = (each_none _, vehicles-none _, omega arith)

pub loop-i-preserved : goal.loop-i-preserved
loop-i-preserved c =
    let l = c.loop-i in
    let here = rw (c.of.ensures.sheet, c.of.ensures.index) at c.finding.ensures in (
      each_more _ l.i l.invariant.0 here c.in_ok-finding.was,
      vehicles-more _ l.i l.invariant.1 c.vehicles_of-before.ensures.0,
      omega (arith, c.vehicles_of-before.ensures.1, l.invariant.2),
    )

pub rows_of-i-end-requires : goal.rows_of-i-end-requires
rows_of-i-end-requires c = omega (arith, start_between c.args.seasons.sheet.now)
