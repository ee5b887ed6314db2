-- `marking::mark` meets its contract: the verdict of the definition, and what it means.
-- Assumes nothing.
use mathlib.Core.Path.{◌≡◌}
use Prim.Native.Nat.{ℕ, ◌*◌, ◌-◌, ◌^◌, ◌≤◌, ◌<◌}
use native.Mathlib.Omega.{arith}
use borrow.Author.Rules.{rules}
use borrow.Author.Tests.{lt-ltb, le-ltb, le-leb, lt-leb}
use Rattle.numbers.specs.Fraction.{ten-pos}
use Rattle.marking.specs.Figure.{places_above, places_below}
use Rattle.marking.specs.Verdicts.{pick, verdict}
use Rattle.marking.proofs.Powers.{product-room}
use Rattle.marking.proofs.Verdicts.{means}
use Rattle.marking.proofs.mark.Goals as goal

pub returns-then-power-places : goal.returns-then-power-places
unfolding verdict pick
returns-then-power-places c = means _ _ _ (rw (← c.exponent_of-power.ensures.0, lt-ltb _ _ c.if-power-places.true))

pub returns-then-power_of_ten-digits : goal.returns-then-power_of_ten-digits
unfolding verdict pick places_above
returns-then-power_of_ten-digits c =
    let u = c.exponent_of-power.ensures.0 in
    means _ _ _
    (rw (
      ← u,
      le-ltb _ _ c.if-power-places.false,
      ← c.saturating_sub-above.ensures,
      ← c.power_of_ten.ensures.0,
      le-leb _ _ c.if-power_of_ten-digits.true,
    ))

-- the digits in milligrams stay below 10¹⁸
room : {digits above power spread : ℕ} → power ≡ 10 ^ (18 - above) → digits < power → spread ≡ 10 ^ above →
    above ≤ 18 → digits * spread < 10 ^ 18
room {above} p below q h = rw q (product-room above h (rw p at below))

pub overflow_mul-digits : goal.overflow_mul-digits
overflow_mul-digits c =
    let below = room c.power_of_ten.ensures.0 c.if-power_of_ten-digits.false c.power_of_ten-spread.ensures.0 (search rules) in
    record { fits = omega arith }

pub overflow_mul-digits-2 : goal.overflow_mul-digits-2
overflow_mul-digits-2 c =
    let below = room c.power_of_ten.ensures.0 c.if-power_of_ten-digits.false c.power_of_ten-spread.ensures.0 (search rules) in
    record { fits = omega arith }

pub compare-requires : goal.compare-requires
compare-requires c = (
  omega (arith, room c.power_of_ten.ensures.0 c.if-power_of_ten-digits.false c.power_of_ten-spread.ensures.0 (search rules)),
  c.power_of_ten-spread.ensures.1,
  rw c.power_of_ten-2.ensures.0
      (omega (arith, ten-pos c.saturating_sub-below.result)),
  omega (arith, c.power_of_ten-2.ensures.1),
)

pub returns : goal.returns
unfolding verdict pick places_above places_below
returns c =
    let u = c.exponent_of-power.ensures.0 in
    means _ _ _
    (rw (
      ← u,
      le-ltb _ _ c.if-power-places.false,
      ← c.saturating_sub-above.ensures,
      ← c.saturating_sub-below.ensures,
      ← c.power_of_ten.ensures.0,
      lt-leb _ _ c.if-power_of_ten-digits.false,
      ← c.power_of_ten-spread.ensures.0,
      ← c.power_of_ten-2.ensures.0,
    ) c.compare.ensures)
