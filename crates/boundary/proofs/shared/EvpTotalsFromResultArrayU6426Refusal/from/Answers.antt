-- `EvpTotals::from` of a read's answer meets its contract.
-- Assumes nothing.
use Rattle.numbers.specs.Lists.{tab}
use Rattle.boundary.specs.Shared.{zeros}
use Rattle.boundary.proofs.Numbers.{totals_told}
use Rattle.boundary.proofs.shared.EvpTotalsFromResultArrayU6426Refusal.from.Goals as goal

pub returns : goal.returns
unfolding zeros tab
returns c = rw (c.told-number.ensures, c.unwrap_or.ensures) (totals_told _)
