-- `report_sums::subtotals` meets its contract: the first k words of the categories are the sums of the rows' words.
use Rattle.std.proofs.Common.{sym, ◌∙◌, arith}
use Rattle.numbers.proofs.Lists.{tab-at, tab-ext}
use Rattle.report_sums.proofs.subtotals.Goals as goal

pub returns : goal.returns
returns c = sym (tab-at c.loop-k.sums c.loop-k.invariant.0) ∙ tab-ext 24 (λ i h. c.loop-k.invariant.1 i (omega arith))
