-- `thresholds::Below::within` meets its contract: both products fit 64 bits.
use Prim.Native.Nat.{ℕ, ◌+◌, ◌*◌, ◌^◌, ◌≤◌, ◌<◌}
use native.Mathlib.Omega.{arith}
use native.Mathlib.Nat.{mul-le-mul}
use Rattle.bounds.proofs.Laws.{exponential-size-1_41}
use Rattle.thresholds.specs.Thresholds.{near_error, within}
use Rattle.thresholds.proofs.Below.within.Goals as goal

-- M·E(d)
left-fits : (M x : ℕ) → M ≤ 10 ^ 6 → x < 2 ^ 43 → M * (x + near_error) < 2 ^ 64
left-fits M x m h = let l : x + near_error ≤ 2 ^ 44 = omega arith in omega (arith, mul-le-mul m l)

pub overflow_mul-result : goal.overflow_mul-result
overflow_mul-result c =
    let m = c.args.self.mileage in
    record {
      fits =
          left-fits m.kilometres c.exponential-above.result m.in_limit
          (rw c.exponential-above.ensures.0 (exponential-size-1_41 (16 * 10 ^ 14 + c.args.d) (omega (arith, c.requires))));
    }

pub returns : goal.returns
unfolding within
returns c = rw (c.far.ensures.0, c.exponential-above.ensures.0)
