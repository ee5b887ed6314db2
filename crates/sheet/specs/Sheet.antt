-- "Where a sheet stops" as a function, numbers 1 to 21 of document 01 with numbers 24 to 26 of document 02. Demands has the same table in plain
-- arithmetic; that both agree is proved as `sheet-says` in proofs/Conditions. Definitions only.
use Rattle.std.specs.Prelude.{Bool, true, false, not, ◌&&◌, ◌||◌, List, Option, Some, None, ℕ, suc, zero, ◌+◌, ◌*◌, ltb, leb, eqb, length}
use Rattle.numbers.specs.Fraction.{Fraction, ◌+ᶠ◌, negᶠ, ◌*ᶠ◌, whole, ◌/10^◌, ◌≤?◌}
use Rattle.exact.specs.declared.Canister.{Canister}
use Rattle.exact.specs.declared.Fitted.{Fitted}
use Rattle.exact.specs.declared.Season.{Season}
use Rattle.exact.specs.declared.Row.{Row}
use Rattle.exact.specs.Day.{signed_tenths}
use Rattle.exact.specs.Canister.{a, b, size}
use Rattle.exact.specs.Factors.{total}
use Rattle.refusals.specs.declared.Rule.TheVariants as rule
use Rattle.refusals.specs.Check.{Check, refuse, ◌then◌, each}
use Rattle.sheet.specs.Limits.{version_limit, seasons_limit, counts_limit, grid_limit, days_limit, cold_limit, warm_limit}
use Rattle.sheet.specs.Limits.{vp_least, vp_limit, percent_limit, tank_limit, vehicles_limit, fleet_limit, trips_limit, minutes_limit, mileage_limit}
use Rattle.sheet.specs.Integers.{u8_at, u16_at}
use Rattle.sheet.specs.Versions.{version_of, has_grid, has_mileage, has_many_rows, rows_most, seasons_start}
use Rattle.sheet.specs.Bytes.{seasons_of, rows_of, duration_counts, hour_counts, grid_counts, season_place, row_place, season_at, row_at}
use Rattle.sheet.specs.Bytes.{equipment_at}
use Rattle.sheet.specs.RunningSums.{days_before, vehicles_before}

-- a number outside least to most
unfoldable pub outside : ℕ → ℕ → ℕ → Bool
outside least most x = ltb x least || ltb most x

-- "letters EVP (hexadecimal 45 56 50)"
unfoldable pub letters_missing : List ℕ → Bool
letters_missing s = not (eqb (u8_at s 0) 0x45 && eqb (u8_at s 1) 0x56 && eqb (u8_at s 2) 0x50)

-- Head | 1 under 8 bytes; 2 mark | 0; 0
unfoldable pub mark_check : List ℕ → Check
mark_check s =
    refuse (ltb (length s) 8) rule.HeadShort 0 then
    refuse (letters_missing s) rule.Mark 0

-- Head | 3 version; 4 S; 5 R; 6 byte 7 | 3; 5; 6; 7; in version 4 "check 6 falls away"
unfoldable pub numbers_check : List ℕ → Check
numbers_check s =
    refuse (outside 1 version_limit (version_of s)) rule.Version 3 then
    refuse (outside 1 seasons_limit (seasons_of s)) rule.Seasons 5 then
    refuse (outside 1 (rows_most s) (rows_of s)) rule.Rows 6 then
    refuse (not (has_many_rows s) && not (eqb (u8_at s 7) 0)) rule.HeadZero 7

-- Head: the mark, then the numbers
unfoldable pub head_check : List ℕ → Check
head_check s = mark_check s then numbers_check s

-- Length | 7 not 104 + 8S + 24R, with a grid 1,160 + 8S + 24R | 0
unfoldable pub length_check : List ℕ → Check
length_check s = refuse (not (eqb (length s) (seasons_start s + 8 * seasons_of s + 24 * rows_of s))) rule.Length 0

-- Parking | 8 duration sum; 9 hour sum | 8; 56
-- with a grid: "24, grid sum out of range, place 8, standing where 8 and 9 stand"
unfoldable pub parking_check : List ℕ → Check
parking_check s =
    refuse (not (has_grid s) && outside 1 counts_limit (total (duration_counts s))) rule.Durations 8 then
    refuse (not (has_grid s) && outside 1 counts_limit (total (hour_counts s))) rule.Hours 56 then
    refuse (has_grid s && outside 1 grid_limit (total (grid_counts s))) rule.Grid 8

-- "each −300 to 500, lowest not above highest", in tenths of °C
unfoldable pub temperatures_wrong : Season → Bool
temperatures_wrong season =
    let lowest = signed_tenths season.lowest in
    let highest = signed_tenths season.highest in
    not ((negᶠ (cold_limit /10^ 1) ≤? lowest) && (lowest ≤? highest) && (highest ≤? warm_limit /10^ 1))

-- Each season | 10 days or their running sum; 11 temperatures; 12 vp | record start
unfoldable pub season_check : List ℕ → ℕ → Check
season_check s i =
    let season = season_at s i in
    let place = season_place s i in
    refuse (outside 1 days_limit season.days || ltb days_limit (days_before s i + season.days)) rule.Days place then
    refuse (temperatures_wrong season) rule.Temperatures place then
    refuse (outside vp_least vp_limit season.vp) rule.VapourPressure place

-- "class and technology not in the table"
unfoldable pub is_absent : Option Fitted → Bool
is_absent None = true
is_absent (Some e) = false

-- "canister (0 none, 1 small, 2 medium, 3 large, 255 by class)"
unfoldable pub code_wrong : ℕ → Bool
code_wrong code = ltb 3 code && not (eqb code 255)

unfoldable pub percent_wrong : Row → Bool
percent_wrong row = ltb percent_limit row.carburettor || ltb percent_limit row.hot || ltb percent_limit row.fill

-- "load above m_sat, or a load or m_sat with no canister"; "Loads equal to m_sat pass."
unfoldable pub load_wrong : Option Canister → ℕ → ℕ → Bool
load_wrong None load saturation = ltb 0 load || ltb 0 saturation
load_wrong (Some c) load saturation = ltb saturation load

-- "at its highest temperature, a + b·s·m_sat above 3", or above another limit, for a canister of size s; m_sat in tenths of a gram
unfoldable pub exponent_above : ℕ → Season → Fraction → ℕ → Bool
exponent_above limit season s saturation =
    let vp = season.vp /10^ 1 in
    let T = signed_tenths season.highest in
    not (a vp T +ᶠ b vp T *ᶠ s *ᶠ saturation /10^ 1 ≤? whole limit)

-- "Rule 20 applies to rows with a canister only."
unfoldable pub saturation_above : ℕ → Option Canister → ℕ → Season → Bool
saturation_above limit None saturation season = false
saturation_above limit (Some c) saturation season = exponent_above limit season (size (Some c)) saturation

-- "in some season" of the first n
unfoldable pub some_season : (Season → Bool) → List ℕ → ℕ → Bool
some_season wrong s zero = false
some_season wrong s (suc n) = some_season wrong s n || wrong (season_at s n)

-- "with no canister"
unfoldable pub no_canister : Option Canister → Bool
no_canister None = true
no_canister (Some c) = false

-- "a mileage above 1,000,000, or one above 0 with no canister, or beside a load, or where the left side of rule 20 is above 0"
unfoldable pub mileage_wrong : List ℕ → Row → Bool
mileage_wrong s row =
    ltb mileage_limit row.mileage ||
    (leb 1 row.mileage &&
    (no_canister row.canister ||
    not (eqb row.load 0) ||
    some_season (saturation_above 0 row.canister row.saturation) s (seasons_of s)))

-- Each row | 13 class and technology not in the table; 14 canister code; 15 a percent; 16 vehicles; 17 tank; 18 trips or
-- minutes; 19 load above m_sat, or a load or m_sat with no canister; 20 in some season, at its highest temperature,
-- a + b·s·m_sat above 3; 21 bytes 20 to 23 | record start; from version 3 on "25, in place of 21"; in version 4 "26, that sum exceeded, at
-- the row where it happens, right after 16"
unfoldable pub row_check : List ℕ → ℕ → Check
row_check s i =
    let row = row_at s i in
    let place = row_place s i in
    refuse (is_absent (equipment_at s place)) rule.Class place then
    refuse (code_wrong (u8_at s (place + 2))) rule.CanisterCode place then
    refuse (percent_wrong row) rule.Percent place then
    refuse (ltb vehicles_limit row.vehicles) rule.Vehicles place then
    refuse (has_many_rows s && ltb fleet_limit (vehicles_before s i + row.vehicles)) rule.Fleet place then
    refuse (ltb tank_limit (u16_at s (place + 6))) rule.Tank place then
    refuse (ltb trips_limit row.trips || ltb minutes_limit row.minutes) rule.Trips place then
    refuse (load_wrong row.canister row.load row.saturation) rule.Load place then
    refuse (some_season (saturation_above 3 row.canister row.saturation) s (seasons_of s)) rule.Exponent place then
    refuse (not (has_mileage s) && not (eqb row.mileage 0)) rule.RowZeros place then
    refuse (has_mileage s && mileage_wrong s row) rule.Mileage place

-- the whole table, "in table and file order"
unfoldable pub sheet_check : List ℕ → Check
sheet_check s =
    head_check s then
    length_check s then
    parking_check s then
    each (season_check s) (seasons_of s) then
    each (row_check s) (rows_of s)
