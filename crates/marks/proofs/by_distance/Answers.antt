-- `marks::by_distance` meets its contract: at each distance stands the value of the mark before 14:00.
use Rattle.std.proofs.Common.{rules}
use Rattle.numbers.proofs.Made.{made-all}
use Rattle.marks.proofs.by_distance.Goals as goal

pub returns : goal.returns
returns c = made-all _ _ _ (λ i y q w. search rules) c.from_fn.ensures.items
