-- `bench_exponentials::served` meets its contract.
use Rattle.std.proofs.Common.{rules, le-ltb, lt-ltb}
use Rattle.bench_exponentials.specs.Total.{served}
use Rattle.bench_exponentials.proofs.served.Goals as goal

pub returns-then-x-lt-LIMIT : goal.returns-then-x-lt-LIMIT
unfolding served
returns-then-x-lt-LIMIT c = simp (lt-ltb _ _ c.if-x-lt-LIMIT.true) (search rules)

pub returns-else-x-lt-LIMIT : goal.returns-else-x-lt-LIMIT
unfolding served
returns-else-x-lt-LIMIT c = simp (le-ltb _ _ c.if-x-lt-LIMIT.false)
