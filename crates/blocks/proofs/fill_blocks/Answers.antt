-- `blocks::fill_blocks` meets its contract: the first i blocks are filled, and what lies beyond them is as it was.
use Rattle.std.proofs.Common.{◌≡◌, ◌*◌, ◌+◌, ◌-◌, ◌≤◌, length, drop, take, ◌∙◌, ap, arith, refl}
use Rattle.std.specs.Fork.{ChangesAt}
use native.Mathlib.Nat.{mul-le-mul_right}
use Rattle.blocks.proofs.Parts.{next-part, part-made}
use Rattle.blocks.proofs.fill_blocks.Goals as goal

pub loop-i-preserved : goal.loop-i-preserved
loop-i-preserved g c =
    let x = c.args in
    let l = c.loop-i in
    let Made = ChangesAt g.F.Fn x.fill in
    let start = l.i * x.size in
    let same : start + x.size - start ≡ x.size = omega arith in
    let end : start + x.size ≤ length l.words = omega (arith, l.invariant.long, c.requires.room, mul-le-mul_right x.size c.loop-i-test.true) in
    part-made Made x.size l.i x.words.now l.words l.invariant _ _ end same c.fill.auto.arg3 (record {
      argument = _;
      argument_is = ap (λ m. take m (drop start l.words)) same ∙ next-part Made x.size l.i x.words.now l.words l.invariant;
      after_call = _;
      call = c.fill.ensures;
      left = refl;
    })
