-- `fields::classes::equipment_of` meets its contract: each class has its own tank, and its canisters by technology.
-- Assumes nothing.
use mathlib.Core.Path.{◌≡◌, refl}
use native.Mathlib.Decide.{dec_le}
use native.Mathlib.Omega.{arith}
use Rattle.exact.specs.Classes.{small_first, medium_first, without, always_small, classes, at_class, equipment}
use Rattle.fields.proofs.ClassTable.{looked-up, no-class}
use Rattle.fields.proofs.classes.equipment_of.Goals as goal

pub returns-in-1 : goal.returns-in-1
unfolding small_first classes at_class equipment
returns-in-1 c = rw c.in-1.is (looked-up 50 _ _ c.one_then_other.ensures c.with_tank.ensures)

pub returns-in-2 : goal.returns-in-2
unfolding small_first classes at_class equipment
returns-in-2 c = rw c.in-2.is (looked-up 60 _ _ c.one_then_other-in-2.ensures c.with_tank-in-2.ensures)

pub returns-in-3 : goal.returns-in-3
unfolding medium_first classes at_class equipment
returns-in-3 c = rw c.in-3.is (looked-up 75 _ _ c.one_then_other-in-3.ensures c.with_tank-in-3.ensures)

pub returns-in-4 : goal.returns-in-4
unfolding small_first classes at_class equipment
returns-in-4 c = rw c.in-4.is (looked-up 60 _ _ c.one_then_other-in-4.ensures c.with_tank-in-4.ensures)

pub returns-in-5 : goal.returns-in-5
unfolding without classes at_class equipment
returns-in-5 c = rw c.in-5.is (looked-up 5 _ _ c.without.ensures c.with_tank-in-5.ensures)

pub returns-in-6 : goal.returns-in-6
unfolding without classes at_class equipment
returns-in-6 c = rw c.in-6.is (looked-up 8 _ _ c.without-in-6.ensures c.with_tank-in-6.ensures)

pub returns-in-7 : goal.returns-in-7
unfolding without classes at_class equipment
returns-in-7 c = rw c.in-7.is (looked-up 10 _ _ c.without-in-7.ensures c.with_tank-in-7.ensures)

pub returns-in-8 : goal.returns-in-8
unfolding without classes at_class equipment
returns-in-8 c = rw c.in-8.is (looked-up 18 _ _ c.without-in-8.ensures c.with_tank-in-8.ensures)

pub returns-in-9 : goal.returns-in-9
unfolding always_small classes at_class equipment
returns-in-9 c = rw c.in-9.is (looked-up 20 _ _ c.always_small.ensures c.with_tank-in-9.ensures)

pub returns-in_default : goal.returns-in_default
unfolding equipment
returns-in_default c =
    let k = c.args.class in
    elim (dec_le 10 k) [
      | yes l ↦ no-class _ _ l
      | no l ↦ let z : k ≡ 0 = omega arith in rw z refl
    ]
