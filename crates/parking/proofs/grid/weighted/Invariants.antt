-- `parking::grid::weighted` meets its contract: the sum so far is that of the first values.
use Rattle.std.proofs.Common.{◌≡◌, ℕ, ◌*◌, ◌/◌, ◌^◌, length}
use Rattle.numbers.specs.Lists as lists
use Rattle.numbers.specs.Lists.{at}
use Rattle.parking.proofs.grid.weighted.Given as goal

abbrev pub invariant-loop-count : goal.invariant-loop-count
invariant-loop-count g l = l.sum ≡ lists.sum (λ (k : ℕ). at l.counts k * (at l.values k / 2 ^ 12)) (length l.yielded)
