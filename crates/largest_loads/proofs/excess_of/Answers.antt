-- `largest_loads::excess_of` meets its contract: where a season does not pass, m is above the largest that passes in all.
-- Assumes nothing.
use Rattle.std.proofs.Common.{arith}
use Rattle.findings.proofs.Seasons.{at-most, above}
use Rattle.largest_loads.proofs.excess_of.Goals as goal

pub returns-in_err-season : goal.returns-in_err-season
returns-in_err-season c =
    let x = c.args in
    rw c.from_residual.ensures (c.in_err-season.ensures, at-most _ _ _ x.seasons.in_range x.m (omega arith) c.in_err-season.ensures)

pub returns : goal.returns
returns c =
    let x = c.args in
    let (first, there) = c.in_ok-season.ensures in
    (first, c.largest_of.ensures, above _ _ _ x.seasons.in_range x.m (omega arith) (rw (← first) there))
