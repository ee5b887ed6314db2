-- The values of an accepted sheet as whole numbers: the hypothesis of request One's theorems, and the `requires` of the functions of a row.
-- That every accepted sheet has them is proved, so that nothing here has to be believed of a call.
use Rattle.std.specs.Prelude.{Option, Some, None, ◌≡◌, ℕ, ◌+◌, ◌*◌, ◌-◌, ◌%◌, ◌^◌, ◌≤◌, ◌<◌}
use Rattle.bounds.specs.Weights.{w}
use Rattle.exact.specs.declared.Canister.{Canister}
use Rattle.exact.specs.declared.Canister.TheVariants.{Small, Medium, Large}
use Rattle.exact.specs.declared.Season.{Season}
use Rattle.exact.specs.declared.Row.{Row}
use Rattle.sheet.specs.Limits.{cold_limit, warm_limit, vp_limit, percent_limit, tank_limit, minutes_limit, mileage_limit}

-- tenths of °C above −30 °C, the coldest that a sheet may have, of a number of 16 bits in two's complement
abbrev pub warmth : ℕ → ℕ
warmth v = (v + cold_limit) % 65536

-- the warmth of 50 °C, the warmest that a sheet may have
abbrev pub warmth_limit : ℕ
warmth_limit = cold_limit + warm_limit

-- T(i), exactly: at mark i the temperature is this many units of 10⁻¹⁰ °C above −30 °C
unfoldable pub mark_warmth : Season → ℕ → ℕ
mark_warmth season i =
    warmth season.lowest * 10 ^ 9 + (warmth season.highest - warmth season.lowest) * w i

-- a season that passed numbers 11 and 12
pub record SeasonInRange (season : Season) : Type 0 where
  pub lowest-bits : season.lowest < 65536
  pub highest-bits : season.highest < 65536
  pub order : warmth season.lowest ≤ warmth season.highest
  pub warm : warmth season.highest ≤ warmth_limit
  pub vp-most : season.vp ≤ vp_limit

-- s in halves, 0 without a canister
unfoldable pub halves : Option Canister → ℕ
halves None = 0
halves (Some Small) = 4
halves (Some Medium) = 2
halves (Some Large) = 1

-- a row with a mileage above 0 that passed number 25
pub record DrivenInRange (season : Season) (row : Row) : Type 0 where
  pub canister-there : 0 < halves row.canister
  pub no-load : row.load ≡ 0
  -- in whole numbers: a + b·s·m_sat ≤ 0 at the season's highest temperature, times 2·10⁷
  pub exponent-low :
      (112000 + 10 * warmth season.highest - 15 * season.vp) * halves row.canister * row.saturation
      + 130000 * warmth season.highest ≤ 259000000 + 30000 * season.vp

-- a row that passed numbers 13 to 21, or 25 in place of 21
pub record RowInRange (season : Season) (row : Row) : Type 0 where
  pub fill-most : row.fill ≤ percent_limit
  pub tank-most : row.tank ≤ tank_limit
  pub minutes-most : row.minutes ≤ minutes_limit
  pub load-most : row.load ≤ row.saturation
  -- number 20 in whole numbers: a + b·s·m_sat ≤ 3 at the season's highest temperature, times 2·10⁷
  pub exponent-most :
      (112000 + 10 * warmth season.highest - 15 * season.vp) * halves row.canister * row.saturation
      + 130000 * warmth season.highest ≤ 319000000 + 30000 * season.vp
  pub mileage-most : row.mileage ≤ mileage_limit
  pub driven : 1 ≤ row.mileage → DrivenInRange season row
