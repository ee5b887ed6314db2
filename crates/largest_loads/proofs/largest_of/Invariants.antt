-- `largest_loads::largest_of` meets its contract: `most` is the largest that passes in the seasons before j.
-- Assumes nothing.
use mathlib.Core.Path.{◌≡◌}
use Rattle.findings.specs.Canisters.{largest_of}
use Rattle.largest_loads.proofs.largest_of.Given as goal

abbrev pub invariant-loop-j : goal.invariant-loop-j
invariant-loop-j l = l.most ≡ largest_of l.demand.limit l.demand.canister l.seasons.sheet.now l.j
