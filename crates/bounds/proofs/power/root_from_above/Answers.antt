-- `bounds::power::root_from_above` meets its contract. The loop's invariant: x < (r + 1)². The measure is r, which falls while r² is above x.
use mathlib.Core.Path.{◌≡◌}
use Prim.Native.Nat.{ℕ, ◌*◌, ◌/◌, ◌≤◌, ◌<◌}
use native.Mathlib.Decide.{dec_le}
use native.Mathlib.Nat.{div-mul-le_self, mul-le-mul_right, div-one}
use native.Mathlib.Omega.{arith}
use Rattle.bounds.proofs.Root.{root_is, root-one, halved-above}
use Rattle.bounds.proofs.power.root_from_above.Goals as goal

-- 1 divides x once at least
above-one : (x r : ℕ) → 0 < x → 0 < r → x / r < r → 2 ≤ r
above-one x r p h l =
    elim (dec_le 2 r) [
      | yes k ↦ k
      | no k ↦ let one : r ≡ 1 = omega arith in absurd (omega (arith, rw (one, div-one) at l))
    ]

-- where x/r is r or more, r² is at most x
square-below : (x r : ℕ) → r ≤ x / r → r * r ≤ x
square-below x r l = omega (arith, mul-le-mul_right r l, div-mul-le_self x r)

pub loop-r-preserved : goal.loop-r-preserved
loop-r-preserved c =
    let two : 2 ≤ c.loop-r.r =
    above-one c.args.x c.loop-r.r c.requires c.loop-r.invariant.1
    (omega arith) in
    (halved-above c.args.x c.loop-r.r c.loop-r.invariant.1, omega arith, omega arith)

pub returns : goal.returns
returns c = (
  root-one (record {
    low = square-below c.args.x c.loop-r.r (omega arith);
    high = c.loop-r.invariant.0;
  }) (root_is _),
  c.loop-r.invariant.2,
)
