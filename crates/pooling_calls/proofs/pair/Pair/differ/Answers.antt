-- `pooling_calls::pair::Pair::differ` meets its contract: another number of seasons is enough, else the bytes decide.
-- Assumes nothing.
use mathlib.Core.Path.{refl, ap, ◌∙◌}
use Prim.Native.Nat.{◌-◌}
use native.Mathlib.Omega.{arith}
use borrow.Author.Tests.{eq-eqb, ne_eqb}
use Rattle.sheet.specs.Bytes.{seasons_of}
use Rattle.sheet.proofs.Accepted.{accepted}
use Rattle.pooling.specs.Pool.{shared_bytes, some_differs, differ}
use Rattle.pooling.proofs.PoolBytes.{start, length-is}
use Rattle.pooling.proofs.PoolAnswers.{region}
use Rattle.pooling_calls.proofs.pair.Pair.differ.Goals as goal

pub returns-then-seasons : goal.returns-then-seasons
unfolding differ
returns-then-seasons c =
    let x = c.args.self.now in
    rw (ne_eqb (seasons_of x.first.bytes.now) (seasons_of x.second.bytes.now) (λ e. omega arith)) refl

pub returns : goal.returns
unfolding differ
returns c =
    let a = c.args.self.now.first.bytes.now in
    let r = region _ c.args.self.now.regions.first in
    rw (eq-eqb (seasons_of a) (seasons_of c.args.self.now.second.bytes.now) (omega arith))
    (c.bytes_differ.ensures ∙
    ap (some_differs a c.args.self.now.second.bytes.now) {x = c.row_place.result - 8} {y = shared_bytes (seasons_of a)}
    (omega (arith, start r)))

pub row_place-requires : goal.row_place-requires
row_place-requires c =
    let r = region _ c.args.self.now.regions.first in
    omega (arith, length-is r, start r, (accepted _ r.passed).rows-least)

pub overflow_sub-row_place : goal.overflow_sub-row_place
overflow_sub-row_place c = omega (arith, start (region _ c.args.self.now.regions.first))

pub bytes_differ-requires : goal.bytes_differ-requires
bytes_differ-requires c =
    let p = c.args.self.now.regions in
    let r = region _ p.first in
    let t = region _ p.second in
    (omega (arith, length-is r, start r), omega (arith, length-is t, start r))
