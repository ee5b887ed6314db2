-- `thresholds::Mileage::log_lower` meets its contract: the exponent is that of its definition, and above 2.82.
use mathlib.Core.Path.{◌≡◌, refl}
use Prim.Native.Nat.{ℕ, ◌*◌, ◌-◌, ◌^◌}
use native.Mathlib.Omega.{arith}
use Rattle.thresholds.specs.Thresholds.{digits, whole_above, enough, margin, log_lower}
use Rattle.thresholds.proofs.Found.{enough-least, lower-enough}
use Rattle.thresholds.proofs.Mileage.log_lower.Goals as goal

-- the exponent as it is computed
computed : (M c d : ℕ) → c ≡ whole_above M → d ≡ digits M c 47 0 → c * 10 ^ 14 - d - margin ≡ log_lower M
unfolding enough log_lower
computed M c d e f = rw (f, e) refl

pub returns : goal.returns
returns c =
    let at_c = c.whole_above-c in
    let M = c.args.self.kilometres in
    let found = rw (c.below.ensures.0, c.below.ensures.1) at c.digits-d.ensures.0 in
    let e = computed M at_c.result c.digits-d.result at_c.ensures.0 found in
    let most = c.args.self.in_limit in
    (e, omega (arith, e, enough-least M c.requires most, lower-enough M c.requires most), omega (arith, at_c.ensures.2))
