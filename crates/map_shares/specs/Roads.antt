-- What part of a row's masses falls on each road kind, "after section 4.7 of document 001". `cond t.town a b` is a for town rows and b for
-- other rows. Definitions only.
use Rattle.std.specs.Prelude.{cond, ℕ, ◌+◌, ◌*◌}
use Rattle.map_shares.specs.declared.Travel.{Travel}
use Rattle.map_shares.specs.Kinds.{Road}

-- "rural mileage times highway speed": the time on rural roads, times both speeds
abbrev pub rural_time : Travel → ℕ
rural_time t = t.mileage.rural * t.speed.highway

-- "highway mileage times rural speed"
abbrev pub highway_time : Travel → ℕ
highway_time t = t.mileage.highway * t.speed.rural

abbrev pub both_times : Travel → ℕ
both_times t = rural_time t + highway_time t

-- "For town rows .. The rest of the diurnal mass splits rural to highway": out of a twelfth; "For other rows the diurnal mass splits so in whole"
abbrev pub rest_parts : Travel → ℕ
rest_parts t = cond t.town (12 * both_times t) (both_times t)

abbrev pub all_mileage : Travel → ℕ
all_mileage t = t.mileage.urban + t.mileage.rural + t.mileage.highway

-- "For town rows eleven twelfths of the diurnal mass and all soak mass are urban."; "Running mass follows the mileage split"
unfoldable pub urban_road : Travel → Road
urban_road t = record {
  diurnal = record { part = cond t.town 11 0; all = 12 };
  soak = record { part = cond t.town 1 0; all = 1 };
  running = record { part = t.mileage.urban; all = all_mileage t };
}

-- "For other rows .. soak is all rural."
unfoldable pub rural_road : Travel → Road
rural_road t = record {
  diurnal = record { part = rural_time t; all = rest_parts t };
  soak = record { part = cond t.town 0 1; all = 1 };
  running = record { part = t.mileage.rural; all = all_mileage t };
}

unfoldable pub highway_road : Travel → Road
highway_road t = record {
  diurnal = record { part = highway_time t; all = rest_parts t };
  soak = record { part = 0; all = 1 };
  running = record { part = t.mileage.highway; all = all_mileage t };
}
