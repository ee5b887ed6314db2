-- `parking::walk::walk` meets its contract: the first end hours have their columns, in 24 steps each.
use mathlib.Core.Path.{refl, ◌∙◌}
use Prim.Native.Nat.{◌+◌, ◌*◌, ◌-◌}
use native.Mathlib.Omega.{arith}
use borrow.Rule.Slice.PartMut.{same_len_mid}
use Rattle.parking.specs.Walk.{walked}
use Rattle.parking.proofs.Walked.{walked_more}
use Rattle.parking.proofs.walk.walk.Goals as goal

pub loop-hour-init : goal.loop-hour-init
unfolding walked
loop-hour-init c = (refl, refl, refl)

pub loop-hour-preserved : goal.loop-hour-preserved
loop-hour-preserved c =
    let l = c.loop-hour in (
      same_len_mid (24 * l.hour) (24 * l.hour + 24 - 24 * l.hour) l.passed c.column-steps.new.out c.passed-in-loop-hour-1.given ∙ l.invariant.0,
      walked_more _ l.hour l.passed _ l.invariant.1 c.column-steps.ensures.0,
      omega (arith, c.column-steps.ensures.1),
    )
