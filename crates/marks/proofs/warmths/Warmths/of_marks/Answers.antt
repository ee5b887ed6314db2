-- `marks::warmths::Warmths::of_marks` meets its contract: at each distance stands its temperature.
use Rattle.numbers.proofs.Lists.{tab-at-most}
use Rattle.bounds.specs.Ahead.{ahead}
use Rattle.marks.proofs.warmths.Warmths.of_marks.Goals as goal

pub invariant_of-result : goal.invariant_of-result
invariant_of-result c = record { temperate = tab-at-most _ 25 c.by_distance.ensures (λ d _. c.requires.at_most (ahead d)) }
