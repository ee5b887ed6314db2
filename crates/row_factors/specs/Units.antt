-- Need not be believed: how large the seven factors of a row in a season can be.
use Rattle.std.specs.Prelude.{List, length, ◌≡◌, ℕ, suc, ◌*◌, ◌^◌, ◌≤◌}
use Rattle.numbers.specs.Lists.{at}
use Rattle.factors.specs.Units.{high_micrograms}

-- a diurnal factor and any other, in micrograms
abbrev pub diurnal_limit : ℕ
diurnal_limit = 2700 * 10 ^ 6

abbrev pub trip_limit : ℕ
trip_limit = 2500 * 10 ^ 6

-- seven factors in units of 2⁻²⁸ g, none larger than that
pub record UnitsInRange (units : List ℕ) : Type 0 where
  pub seven : length units ≡ 7
  pub diurnal-most : high_micrograms (at units 0) ≤ diurnal_limit
  pub trip-most : (k : ℕ) → high_micrograms (at units (suc k)) ≤ trip_limit
