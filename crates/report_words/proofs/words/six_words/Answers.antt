-- `report_words::words::six_words` meets its contract: the first m words are in milligrams, the others as they were.
use Rattle.std.proofs.Common.{sym, ◌∙◌, arith}
use Rattle.numbers.proofs.Lists.{tab-at, tab-ext}
use Rattle.report_words.proofs.words.six_words.Goals as goal

pub returns : goal.returns
returns c = sym (tab-at c.loop-m.six c.loop-m.invariant.0) ∙ tab-ext 6 (λ k h. c.loop-m.invariant.1 k (omega arith))
