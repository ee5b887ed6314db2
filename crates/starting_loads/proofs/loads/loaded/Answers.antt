-- `starting_loads::loads::loaded` meets its contract: the exponent is at most 0, so the loss at the net load is at most a gram.
use mathlib.Core.Path.{◌∙◌, ap}
use Prim.Native.Nat.{ℕ, ◌+◌, ◌*◌, ◌/◌, ◌^◌, ◌≤◌, min}
use native.Mathlib.Omega.{arith}
use Rattle.bounds.specs.Short.{short}
use Rattle.bounds.proofs.ShortLine.{line-mono}
use Rattle.bounds.proofs.Laws.{short-most-1}
use Rattle.starting_loads.specs.Loss.{loss, loaded}
use Rattle.starting_loads.proofs.loads.loaded.Goals as goal

pub line-x-requires : goal.line-x-requires
line-x-requires c =
    let b = c.requires.0 in
    (b.base-below, omega (arith, b.growth-most), omega (arith, c.requires.1, b.saturation-below))

-- it is at most that at saturation
held : (c : goal.After-line-x) → c.line-x.result ≤ 16 * 2 ^ 53
held c =
    let s = c.before in
    omega (arith, c.line-x.ensures.0, s.requires.0.exponent-most, line-mono s.args.c.line.base s.args.c.line.growth s.requires.1)

pub short-y-requires : goal.short-y-requires
short-y-requires c = omega (arith, held c)

pub loss-requires : goal.loss-requires
loss-requires c =
    let s = c.before.before in
    (s.requires.0.growth-most, omega (arith, c.short-y.ensures.0, short-most-1 _ (held c.before)))

pub returns : goal.returns
unfolding loaded
returns c =
    let o = c.before in
    let m = o.before.before in
    let a = m.args in
    let lost = o.short-y.ensures.0 ∙ ap short m.line-x.ensures.0 in
    c.min.ensures ∙
    ap (λ (x : ℕ). min a.c.saturation (a.net + x)) (o.loss.ensures.0 ∙ ap (λ (y : ℕ). loss a.c.line.growth (y / 2 ^ 4)) lost)
