-- `bench_exponentials::total` meets its contract. The loop's invariant: the sum is that of the exponents passed, in 64 bits.
use Rattle.std.proofs.Common.{◌≡◌, ℕ, ◌%◌, ◌^◌, List, get_or}
use Rattle.numbers.specs.Lists.{sum}
use Rattle.bench_exponentials.specs.Total.{served}
use Rattle.bench_exponentials.proofs.total.Given as goal

-- the exponential of the exponent at k
abbrev pub part : List ℕ → ℕ → ℕ
part xs k = served (get_or xs k 0)

abbrev pub invariant-loop-x : goal.invariant-loop-x
invariant-loop-x l = l.sum ≡ sum (part l.xs) l.x-index % 2 ^ 64
