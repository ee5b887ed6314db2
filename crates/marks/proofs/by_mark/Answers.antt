-- `marks::by_mark` meets its contract: at each mark stands the value of its distance.
use borrow.Author.Rules.{rules}
use Rattle.numbers.proofs.Made.{made-all}
use Rattle.marks.proofs.by_mark.Goals as goal

pub returns : goal.returns
returns c = made-all _ _ _ (λ i y q w. search rules) c.from_fn.ensures.items
