-- Need not be believed: the net load that a mileage implies, as the program computes it.
use Rattle.std.specs.Prelude.{ℕ, ◌*◌, ◌-◌, ◌/◌, ◌^◌}
use Rattle.thresholds.specs.Thresholds.{log_lower}
use Rattle.starting_loads.specs.Loss.{start}

-- the net load: (8.13·y − 22.92)/s in units of 2⁻⁴⁰ g, for h = 2·s and y in units of 10⁻¹⁴. (2⁴⁰/10¹⁶ is 2²⁴/5¹⁶.)
unfoldable pub net : ℕ → ℕ → ℕ
net h y = 2 * (813 * y - 2292 * 10 ^ 14) / h * 2 ^ 24 / 5 ^ 16

-- for M km from 17 upward
abbrev pub net_of : ℕ → ℕ → ℕ
net_of h M = net h (log_lower M)

-- and the starting load then, for a and 2·b·s in units of 2⁻⁴⁴
abbrev pub start_units : ℕ → ℕ → ℕ → ℕ → ℕ → ℕ
start_units a k h σ M = start a k σ (net_of h M)
