-- `thresholds::Below::digits` meets its contract. The loop's invariant: what the digits left find from d is what all of them find from 0.
use mathlib.Core.Path.{◌≡◌, ◌∙◌}
use Prim.Native.Nat.{ℕ, suc, ◌+◌, ◌*◌, ◌-◌, ◌%◌, ◌^◌, ◌<◌}
use native.Mathlib.Omega.{arith}
use native.Mathlib.Nat.{pow-suc, mod-eq_of_lt}
use Rattle.std.proofs.lemmas.Nat.{pow_below}
use Rattle.thresholds.specs.Thresholds.{digit, digits}
use Rattle.thresholds.proofs.Below.digits.Goals as goal

-- what is left is the next digit and what is left after it
record Next (i left bit : ℕ) : Type 0 where
  pub left-is : 47 - i ≡ suc left
  pub after : 47 - (i + 1) ≡ left
  pub bit-is : bit ≡ 2 ^ left
  pub halves : 2 ^ (47 - i) ≡ 2 * 2 ^ left

next : (i : ℕ) → i < 47 → Next i (46 - i) (1 * 2 ^ (46 - i) % 2 ^ 64)
next i h =
    let e : 47 - i ≡ suc (46 - i) = omega arith in
    let small : 2 ^ (46 - i) < 2 ^ 47 = pow_below (46 - i) 47 (omega arith) in
    record {
      left-is = e;
      after = omega arith;
      bit-is = mod-eq_of_lt {n = 1 * 2 ^ (46 - i)} {m = 2 ^ 64} (omega arith) ∙ omega arith;
      halves = rw (e, pow-suc) (omega arith);
    }

-- one digit more
step : (M c i d : ℕ) {left bit r : ℕ} → Next i left bit → r ≡ digit M c d bit → digits M c (47 - (i + 1)) r ≡ digits M c (47 - i) d
unfolding digits
step M c i d n e = rw (n.left-is, n.after, e, n.bit-is)

pub digit-d-requires : goal.digit-d-requires
digit-d-requires c =
    let n = next c.loop-found.found (omega arith) in
    omega (arith, c.loop-found.invariant.1, n.bit-is, n.halves)

pub loop-found-preserved : goal.loop-found-preserved
loop-found-preserved c =
    let l = c.loop-found in
    let n = next l.found (omega arith) in (
      step c.args.self.mileage.kilometres c.args.self.whole l.found l.d n c.digit-d.ensures.0 ∙ l.invariant.0,
      rw n.after (omega (arith, l.invariant.1, n.bit-is, n.halves, c.digit-d.ensures.1)),
    )

pub returns : goal.returns
unfolding digits
returns c =
    let l = c.loop-found in
    let e : 47 - l.found ≡ 0 = omega arith in
    (rw e at l.invariant.0, omega (arith, l.invariant.1))
