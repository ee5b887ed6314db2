-- `parking::grid::weighted` meets its contract: the sum so far is that of the first values.
use Rattle.std.proofs.Common.{◌≡◌, ◌∙◌, ℕ, ◌*◌, ◌/◌, ◌^◌, ◌<◌, arith, length, ap, ap₂, length-append}
use Rattle.std.proofs.lemmas.Slice.Zip.{zip_turn, zip_end}
use Rattle.numbers.proofs.Lists.{sum-none, sum_more}
use Rattle.numbers.specs.Lists.{at, sum}
use Rattle.parking.proofs.Sums.{sum_fits}
use Rattle.parking.proofs.grid.weighted.Given.{Over}
use Rattle.parking.proofs.grid.weighted.Goals as goal

-- the pair of an iteration stands in both lists at the place that was reached
turn : (g : Over) (c : goal.In-Some g) → (length c.loop-count.yielded < g.row.N)
    × (c.in-Some.field-0-0.now * (c.in-Some.field-0-1.now / 2 ^ 12)
    ≡ at c.args.counts.now (length c.loop-count.yielded) * (at c.args.values.now (length c.loop-count.yielded) / 2 ^ 12))
turn g c =
    let made = c.into_iter-count-iterator.ensures.into_iter_gives in
    let t = zip_turn c.args.counts.now c.args.values.now c.loop-count.yielded
    c.into_iter-count-iterator.result c.loop-count.count-iterator c.next.new.self _
    (ap (λ i. i.a.rest.now) made ∙ ap (λ i. i.rest.now) c.zip-count-items.ensures.first ∙ c.iter.ensures.rest)
    (ap (λ i. i.b.rest.now) made ∙ c.zip-count-items.ensures.second.0) c.loop-count.yielded_by _ c.in-Some.is c.next.ensures.steps in
    (omega (arith, t.0, c.told-counts), ap₂ (λ (x y : ℕ). x * (y / 2 ^ 12)) (t.2 0) (t.3 0))

pub loop-count-init : goal.loop-count-init
loop-count-init g c = sum-none _

pub overflow_mul-sum : goal.overflow_mul-sum
overflow_mul-sum g c = let t = turn g c in omega (arith, sum_fits _ t.0 c.requires c.loop-count.invariant t.1)

pub overflow_add-sum : goal.overflow_add-sum
overflow_add-sum g c = let t = turn g c in omega (arith, sum_fits _ t.0 c.requires c.loop-count.invariant t.1)

pub loop-count-preserved : goal.loop-count-preserved
loop-count-preserved g c = let t = turn g c in rw length-append (sum_more _ _ c.loop-count.invariant t.1)

pub returns : goal.returns
returns g c =
    let made = c.into_iter-count-iterator.ensures.into_iter_gives in
    let long = zip_end c.args.counts.now c.args.values.now c.loop-count.yielded
    c.into_iter-count-iterator.result c.loop-count.count-iterator c.next.new.self _
    (ap (λ i. i.a.rest.now) made ∙ ap (λ i. i.rest.now) c.zip-count-items.ensures.first ∙ c.iter.ensures.rest)
    (ap (λ i. i.b.rest.now) made ∙ c.zip-count-items.ensures.second.0) c.loop-count.yielded_by c.in-None.is c.next.ensures.steps in
    c.loop-count.invariant ∙ ap (sum _) (omega (arith, long, c.told-counts, c.told-values))
