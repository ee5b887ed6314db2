-- `starting_loads::mileage::net_from` meets its contract: what is divided is below 2·10¹⁸, so that the net load is below 2⁵⁰.
use Prim.Native.Nat.{◌*◌, ◌-◌, ◌/◌, ◌^◌, ◌≤◌}
use native.Mathlib.Omega.{arith}
use native.Mathlib.Nat.{div-le_self}
use Rattle.starting_loads.specs.Net.{net}
use Rattle.starting_loads.proofs.mileage.net_from.Goals as goal

-- t is below 2·10¹⁸
most : (c : goal.Start) → 2 * (813 * c.args.y - 229200000000000000) / c.args.halves ≤ 2 * 10 ^ 18
most c = omega (arith, div-le_self (2 * (813 * c.args.y - 229200000000000000)) c.args.halves, c.requires.1)

pub mul_add_div-requires : goal.mul_add_div-requires
mul_add_div-requires c = omega (arith, most c)

pub returns : goal.returns
unfolding net
returns c = omega (arith, most c.before, c.mul_add_div.ensures)
