-- The limits of a sheet, each named once for the definitions; fields/src/limits.rt names them for the code.
-- Definitions only.
use Rattle.std.specs.Prelude.{ℕ, ◌+◌, ◌*◌}

-- the versions that are read, from 1 on
abbrev pub version_limit : ℕ
version_limit = 4

-- "u8 seasons S, 1 to 12; u8 rows R, 1 to 32"
abbrev pub seasons_limit : ℕ
seasons_limit = 12

abbrev pub rows_limit : ℕ
rows_limit = 32

-- version 4: "a u16 row count of 1 to 1,000"
abbrev pub many_rows_limit : ℕ
many_rows_limit = 1000

-- "Each list sums to 1 to 1,000."
abbrev pub counts_limit : ℕ
counts_limit = 1000

-- the grid of version 2: "They sum to 1 to 1,000,000"
abbrev pub grid_limit : ℕ
grid_limit = 1000000

-- "u16 days, 1 to 366, all seasons together at most 366"
abbrev pub days_limit : ℕ
days_limit = 366

-- "each −300 to 500", in tenths of °C: how far below and above 0
abbrev pub cold_limit : ℕ
cold_limit = 300

abbrev pub warm_limit : ℕ
warm_limit = 500

-- "vp in tenths of kPa, 300 to 1100"
abbrev pub vp_least : ℕ
vp_least = 300

abbrev pub vp_limit : ℕ
vp_limit = 1100

-- "in percent, 0 to 100"
abbrev pub percent_limit : ℕ
percent_limit = 100

-- "tank in tenths of a litre, .. at most 1500"
abbrev pub tank_limit : ℕ
tank_limit = 1500

-- "vehicles, at most 10,000,000"
abbrev pub vehicles_limit : ℕ
vehicles_limit = 10000000

-- version 4: "the vehicles of all rows together are at most 100,000,000"
abbrev pub fleet_limit : ℕ
fleet_limit = 100000000

-- trips a day in hundredths: "The upper limit of the trips field becomes 1200 for all versions"
abbrev pub trips_limit : ℕ
trips_limit = 1200

-- "minutes per trip, at most 1440"
abbrev pub minutes_limit : ℕ
minutes_limit = 1440

-- "a mileage above 1,000,000", in km
abbrev pub mileage_limit : ℕ
mileage_limit = 1000000

-- the bytes of the longest sheet: a head and a grid, all seasons and all rows
abbrev pub longest : ℕ
longest = 1160 + 8 * seasons_limit + 24 * many_rows_limit
