-- `bounds::power::power` meets its contract: the cut difference is at most 65·10¹⁰, and the computed T^2.5 encloses the exact one.
use mathlib.Core.Path.{◌≡◌}
use Prim.Native.Nat.{◌*◌, ◌/◌, ◌^◌}
use Rattle.bounds.specs.Power.{power, power_from}
use Rattle.bounds.proofs.PowerBound.{power_size, power-within}
use Rattle.bounds.proofs.power.power.Goals as goal

pub returns : goal.returns
unfolding power power_from
returns c =
    let l = c.requires in
    let e : c.half_power.result * 8307674973 / 2 ^ 24 ≡ power c.args.warmth = cc in
    (e, rw e (power_size _ l), rw e (power-within _ l))
