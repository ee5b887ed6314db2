-- `breakthrough::losses::through_list` meets its contract: the sum so far is that of the first entries.
use Rattle.std.proofs.Common.{◌≡◌, ◌+◌, ◌*◌, ◌/◌, ◌^◌, ◌<◌, refl, arith, take, get_or-take, length-take}
use Rattle.numbers.proofs.Lists.{sum-none, sum_more}
use Rattle.parking.specs.SeasonList.{entry_at, part, none}
use Rattle.parking.proofs.Sums.{sum_fits}
use Rattle.breakthrough.proofs.Listed.{each, list-fits}
use Rattle.breakthrough.proofs.losses.through_list.Goals as goal

-- what an entry of the slice adds is the part of the list's, and the sum with it fits
added : (c : goal.After-through) → let k = c.loop-entry.entry-index in let list = c.args.list.now in
    (k < list.length) × ((entry_at (take list.length list.entries) k).count * (c.through.result / 2 ^ 12)
    ≡ part (each c.args.c.now.by_distance) list.entries k)
added c =
    let list = c.args.list.now in
    let h : c.loop-entry.entry-index < list.length = omega (arith, c.loop-entry-test.true, length-take list.length list.entries) in
    (h, rw (c.through.ensures, get_or-take list.length list.entries c.loop-entry.entry-index none h) refl)

fits : (c : goal.After-through) → let list = c.args.list.now in
    c.loop-entry.sum + (entry_at (take list.length list.entries) c.loop-entry.entry-index).count * (c.through.result / 2 ^ 12) < 2 ^ 64
fits c =
    let a = added c in
    sum_fits _ a.0 (list-fits c.args.list.now c.args.c.now.by_distance c.args.c.now.ready c.requires) c.loop-entry.invariant a.1

pub loop-entry-init : goal.loop-entry-init
loop-entry-init c = sum-none _

pub overflow_mul-sum : goal.overflow_mul-sum
overflow_mul-sum c = omega (arith, fits c)

pub overflow_add-sum : goal.overflow_add-sum
overflow_add-sum c = omega (arith, fits c)

pub loop-entry-preserved : goal.loop-entry-preserved
loop-entry-preserved c = sum_more _ _ c.loop-entry.invariant (added c).1
