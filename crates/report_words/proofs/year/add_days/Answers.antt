-- `report_words::year::add_days` meets its contract: the first m of the six words have their figures added, the others are as they were.
use Rattle.std.proofs.Common.{sym, ◌∙◌, arith}
use Rattle.numbers.proofs.Lists.{tab-at, tab-ext}
use Rattle.report_words.proofs.year.add_days.Goals as goal

pub overflow_add-word : goal.overflow_add-word
overflow_add-word c = record { fits = omega (arith, c.requires.1.sum_fits c.loop-m.m (omega arith), c.loop-m.invariant.2 c.loop-m.m (omega arith)) }

pub returns : goal.returns
returns c = sym (tab-at c.loop-m.six c.loop-m.invariant.0) ∙ tab-ext 6 (λ k h. c.loop-m.invariant.1 k (omega arith))
