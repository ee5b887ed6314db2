-- `bench_exponentials::total` meets its contract. The loop's invariant: the sum is that of the exponents passed, in 64 bits.
use Rattle.std.proofs.Common.{◌≡◌, ℕ, ◌+◌, ◌%◌, ◌^◌, refl, ap, ◌∙◌, arith}
use Rattle.numbers.specs.Lists.{sum}
use Rattle.bench_exponentials.specs.Total.{total}
use Rattle.numbers.proofs.Lists.{sum-none, sum_more}
use Rattle.bench_exponentials.proofs.total.Invariants.{part}
use Rattle.bench_exponentials.proofs.total.Goals as goal

-- one part more
more : (f : ℕ → ℕ) (i : ℕ) {s r : ℕ} → s ≡ sum f i % 2 ^ 64 → r ≡ f i → (s + r) % 2 ^ 64 ≡ sum f (i + 1) % 2 ^ 64
more f i e h = omega (arith, sum_more f i refl h)

pub loop-x-init : goal.loop-x-init
loop-x-init c = omega (arith, sum-none (part c.args.xs.now))

pub loop-x-preserved : goal.loop-x-preserved
loop-x-preserved c = more (part c.args.xs.now) c.loop-x.x-index c.loop-x.invariant c.served-sum.ensures

pub returns : goal.returns
unfolding total
returns c = c.loop-x.invariant ∙ ap (λ (k : ℕ). sum (part c.args.xs.now) k % 2 ^ 64) (omega arith)
