-- `breakthrough::losses::through_list` meets its contract: the sum so far is that of the first entries.
use Rattle.std.proofs.Common.{◌≡◌}
use Rattle.numbers.specs.Lists as lists
use Rattle.parking.specs.SeasonList.{part}
use Rattle.breakthrough.proofs.Listed.{each}
use Rattle.breakthrough.proofs.losses.through_list.Given as goal

abbrev pub invariant-loop-entry : goal.invariant-loop-entry
invariant-loop-entry l = l.sum ≡ lists.sum (part (each l.c.by_distance) l.list.entries) l.entry-index
