-- Need not be believed: what the starting load asks of a canister.
use Rattle.std.specs.Prelude.{◌*◌, ◌^◌, ◌<◌, ◌≤◌}
use Rattle.bounds.specs.Short.{line_of}
use Rattle.starting_loads.specs.declared.loads.Balance.{Balance}

-- number 25: up to saturation the exponent is at most 0; and the products and sums fit
pub record BalanceReady (c : Balance) : Type 0 where
  pub base-below : c.line.base < 2 ^ 48
  pub growth-most : c.line.growth ≤ 2 ^ 43
  pub saturation-below : c.saturation < 2 ^ 49
  pub exponent-most : line_of c.line.base c.line.growth c.saturation ≤ 16 * 2 ^ 53
