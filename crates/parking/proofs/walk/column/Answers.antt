-- `parking::walk::column` meets its contract: the first durations hold what passed in their parkings, and what is carried is the last of
-- these, in one step for each.
use mathlib.Core.Path.{◌≡◌, refl, ◌∙◌, ap}
use Prim.Native.Nat.{◌+◌, ◌^◌}
use native.Mathlib.Numerals.{add-one}
use native.Mathlib.Nat.{mul-le-mul_right}
use native.Mathlib.Omega.{arith}
use Rattle.numbers.specs.Lists.{at}
use Rattle.numbers.proofs.Lists.{filled_none, filled_more, filled-all}
use Rattle.marks.specs.Marks.{passed}
use Rattle.marks.proofs.Permeation.{passed-most}
use Rattle.parking.proofs.Passed.{passed-more}
use Rattle.parking.proofs.Walked.{none_passed, column-is}
use Rattle.parking.proofs.walk.column.Goals as goal

pub loop-d-init : goal.loop-d-init
loop-d-init c = (filled_none _ _ c.requires.2, none_passed c.args.values.now c.args.hour, refl)

pub step_back-carried-requires : goal.step_back-carried-requires
step_back-carried-requires c =
    let l = c.loop-d in (
      omega (
        arith,
        c.requires.0.at_most c.start_mark-mark.result,
        passed-most (at c.args.values.now) (2 ^ 50) c.requires.0.at_most c.args.hour l.d,
        mul-le-mul_right (2 ^ 50) l.invariant.0.places,
      ),
      omega arith,
    )

pub loop-d-preserved : goal.loop-d-preserved
loop-d-preserved c =
    let l = c.loop-d in
    let next : c.step_back-carried.result.passed ≡ passed (at c.args.values.now) c.args.hour (l.d + 1)
    = c.step_back-carried.ensures.0 ∙
    passed-more (at c.args.values.now) c.args.hour l.d l.invariant.1
    (ap (at c.args.values.now) c.start_mark-mark.ensures.0) in
    (filled_more l.invariant.0 (omega arith) (rw add-one at next), next, omega arith)

pub returns : goal.returns
returns c = (filled-all c.loop-d.invariant.0 (omega arith) ∙ column-is _ _, omega arith)
