-- `checks::seasons::seasons_check` meets its contract: seasons that have passed are in range.
-- Assumes nothing.
use Rattle.std.proofs.Common.{rules, ◌≡◌, arith}
use Rattle.sheet.specs.Bytes.{seasons_of}
use Rattle.sheet.proofs.InRange.{seasons-in-range}
use Rattle.checks.proofs.seasons.seasons_check.Goals as goal

pub invariant_of-result-clause-in_range : goal.invariant_of-result-clause-in_range
invariant_of-result-clause-in_range c =
    let l = c.loop-i in
    let all : l.i ≡ seasons_of c.args.s.now = omega arith in
    seasons-in-range c.args.s.now (record { byte = λ k. search rules }) (rw all at l.invariant.0)
