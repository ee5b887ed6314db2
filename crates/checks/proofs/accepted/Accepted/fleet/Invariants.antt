-- `checks::accepted::Accepted::fleet` meets its contract: the sum is that of the first i rows.
-- Assumes nothing.
use mathlib.Core.Path.{◌≡◌}
use Rattle.sheet.specs.RunningSums.{vehicles_before}
use Rattle.checks.proofs.accepted.Accepted.fleet.Given as goal

abbrev pub invariant-loop-i : goal.invariant-loop-i
invariant-loop-i l = l.fleet ≡ vehicles_before l.self.bytes.now l.i
