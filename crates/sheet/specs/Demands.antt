-- "Where a sheet stops" once more, in plain arithmetic: what is demanded of a sheet, each demand with the number and the place that are
-- returned where it is the first that is not met. That the table of Sheet says the same is proved. Definitions only.
use Rattle.std.specs.Prelude.{None, List, ◌⊎◌, ◌≡◌, ℕ, suc, zero, ◌+◌, ◌*◌, ◌≤◌, ◌<◌, length}
use Rattle.numbers.specs.Fraction.{Fraction, ◌≤ᶠ◌, ◌+ᶠ◌, negᶠ, ◌*ᶠ◌, whole, ◌/10^◌}
use Rattle.exact.specs.declared.Season.{Season}
use Rattle.exact.specs.declared.Row.{Row}
use Rattle.exact.specs.Classes.{absent}
use Rattle.exact.specs.Day.{signed_tenths}
use Rattle.exact.specs.Canister.{a, b, size}
use Rattle.exact.specs.Factors.{total}
use Rattle.refusals.specs.declared.Rule.{Rule}
use Rattle.refusals.specs.declared.Rule.TheVariants as rule
use Rattle.refusals.specs.Rule.{number}
use Rattle.sheet.specs.Limits.{version_limit, seasons_limit, counts_limit, grid_limit, days_limit, cold_limit, warm_limit}
use Rattle.sheet.specs.Limits.{vp_least, vp_limit, percent_limit, tank_limit, vehicles_limit, fleet_limit, trips_limit, minutes_limit, mileage_limit}
use Rattle.sheet.specs.Integers.{u8_at, u16_at}
use Rattle.sheet.specs.Versions.{version_of, rows_most, seasons_start}
use Rattle.sheet.specs.Bytes.{seasons_of, rows_of, duration_counts, hour_counts, grid_counts, season_place, row_place, season_at, row_at}
use Rattle.sheet.specs.Bytes.{equipment_at}
use Rattle.sheet.specs.RunningSums.{days_before, vehicles_before}

-- Demands in their order: one with its rule and place, one after another, and those on records 0, 1, .. n − 1.
infixr 5 ◌next◌
pub data Demands : Type 1 where
  demand : Rule → ℕ → Type 0 → Demands
  ◌next◌ : Demands → Demands → Demands
  every : ℕ → (ℕ → Demands) → Demands

-- all are met
abbrev pub Met : Demands → Type 0
Met (demand rule place A) = A
Met (D next E) = Met D × Met E
Met (every n f) = (i : ℕ) → i < n → Met (f i)

-- the first that is not met has this number and place: "The first that applies, in table and file order"
abbrev pub FirstUnmet : ℕ → ℕ → Demands → Type 0
FirstUnmet n p (demand rule place A) = (n ≡ number rule) × (p ≡ place) × ¬ A
FirstUnmet n p (D next E) = FirstUnmet n p D ⊎ (Met D × FirstUnmet n p E)
FirstUnmet n p (every k f) = (i : ℕ) × (i < k) × ((j : ℕ) → j < i → Met (f j)) × FirstUnmet n p (f i)

-- what an answer says of the demands: with number 0 all are met, and with any other the first that is not met is this one, at this place
abbrev pub Says : Demands → ℕ → ℕ → Type 0
Says D zero place = Met D
Says D (suc n) place = FirstUnmet (suc n) place D

-- Head | 1 under 8 bytes; 2 mark | 0; 0
abbrev pub mark_demands : List ℕ → Demands
mark_demands s =
    demand rule.HeadShort 0 (8 ≤ length s) next
    demand rule.Mark 0 (((u8_at s 0 ≡ 0x45) × (u8_at s 1 ≡ 0x56)) × (u8_at s 2 ≡ 0x50))

-- Head | 3 version; 4 S; 5 R; 6 byte 7 | 3; 5; 6; 7; in version 4 "check 6 falls away"
abbrev pub numbers_demands : List ℕ → Demands
numbers_demands s =
    demand rule.Version 3 ((1 ≤ version_of s) × (version_of s ≤ version_limit)) next
    demand rule.Seasons 5 ((1 ≤ seasons_of s) × (seasons_of s ≤ seasons_limit)) next
    demand rule.Rows 6 ((1 ≤ rows_of s) × (rows_of s ≤ rows_most s)) next
    demand rule.HeadZero 7 (version_of s < 4 → u8_at s 7 ≡ 0)

-- Head: the mark, then the numbers
abbrev pub head_demands : List ℕ → Demands
head_demands s = mark_demands s next numbers_demands s

-- Length | 7 not 104 + 8S + 24R, with a grid 1,160 + 8S + 24R | 0
abbrev pub length_demand : List ℕ → Demands
length_demand s = demand rule.Length 0 (length s ≡ seasons_start s + 8 * seasons_of s + 24 * rows_of s)

-- Parking | 8 duration sum; 9 hour sum | 8; 56
-- with a grid: "24, grid sum out of range, place 8, standing where 8 and 9 stand"
abbrev pub parking_demands : List ℕ → Demands
parking_demands s =
    demand rule.Durations 8 (version_of s < 2 → (1 ≤ total (duration_counts s)) × (total (duration_counts s) ≤ counts_limit)) next
    demand rule.Hours 56 (version_of s < 2 → (1 ≤ total (hour_counts s)) × (total (hour_counts s) ≤ counts_limit)) next
    demand rule.Grid 8 (2 ≤ version_of s → (1 ≤ total (grid_counts s)) × (total (grid_counts s) ≤ grid_limit))

-- Each season | 10 days or their running sum; 11 temperatures; 12 vp | record start
abbrev pub season_demands : List ℕ → ℕ → Demands
season_demands s i =
    let season = season_at s i in
    let place = season_place s i in
    let lowest = signed_tenths season.lowest in
    let highest = signed_tenths season.highest in
    demand rule.Days place (((1 ≤ season.days) × (season.days ≤ days_limit)) × (days_before s i + season.days ≤ days_limit)) next
    demand rule.Temperatures place (((negᶠ (cold_limit /10^ 1) ≤ᶠ lowest) × (lowest ≤ᶠ highest)) × (highest ≤ᶠ warm_limit /10^ 1)) next
    demand rule.VapourPressure place ((vp_least ≤ season.vp) × (season.vp ≤ vp_limit))

-- a + b·s·m at temperature T, for a canister of size s and its load m
abbrev pub exponent_at : Season → Fraction → Fraction → Fraction → Fraction
exponent_at season T s m =
    let vp = season.vp /10^ 1 in
    a vp T +ᶠ b vp T *ᶠ s *ᶠ m

-- at the season's highest temperature, a + b·s·m_sat is at most a limit, for a row with a canister
abbrev pub ExponentMost : ℕ → Row → Season → Type 0
ExponentMost limit row season =
    ¬ (row.canister ≡ None)
    → exponent_at season (signed_tenths season.highest) (size row.canister) (row.saturation /10^ 1) ≤ᶠ whole limit

-- a mileage up to 1,000,000 km; and above 0 it has a canister, no load beside it, and a + b·s·m_sat ≤ 0 in every season
abbrev pub MileageRight : List ℕ → Row → Type 0
MileageRight s row =
    (row.mileage ≤ mileage_limit) ×
    (1 ≤ row.mileage → (¬ (row.canister ≡ None) × (row.load ≡ 0)) × ((j : ℕ) → j < seasons_of s → ExponentMost 0 row (season_at s j)))

-- Each row | 13 class and technology not in the table; 14 canister code; 15 a percent; 16 vehicles; 17 tank; 18 trips or
-- minutes; 19 load above m_sat, or a load or m_sat with no canister; 20 in some season, at its highest temperature,
-- a + b·s·m_sat above 3; 21 bytes 20 to 23 | record start; from version 3 on "25, in place of 21"; in version 4 "26, that sum exceeded, at
-- the row where it happens, right after 16"
abbrev pub row_demands : List ℕ → ℕ → Demands
row_demands s i =
    let row = row_at s i in
    let place = row_place s i in
    let code = u8_at s (place + 2) in
    demand rule.Class place (¬ (equipment_at s place ≡ absent)) next
    demand rule.CanisterCode place ((code ≤ 3) ⊎ (code ≡ 255)) next
    demand rule.Percent place (((row.carburettor ≤ percent_limit) × (row.hot ≤ percent_limit)) × (row.fill ≤ percent_limit)) next
    demand rule.Vehicles place (row.vehicles ≤ vehicles_limit) next
    demand rule.Fleet place (4 ≤ version_of s → vehicles_before s i + row.vehicles ≤ fleet_limit) next
    demand rule.Tank place (u16_at s (place + 6) ≤ tank_limit) next
    demand rule.Trips place ((row.trips ≤ trips_limit) × (row.minutes ≤ minutes_limit)) next
    demand rule.Load place ((row.load ≤ row.saturation) × (row.canister ≡ None → row.saturation ≡ 0)) next
    demand rule.Exponent place ((j : ℕ) → j < seasons_of s → ExponentMost 3 row (season_at s j)) next
    demand rule.RowZeros place (version_of s < 3 → row.mileage ≡ 0) next
    demand rule.Mileage place (3 ≤ version_of s → MileageRight s row)

-- the whole table, "in table and file order"
abbrev pub demands : List ℕ → Demands
demands s =
    head_demands s next
    length_demand s next
    parking_demands s next
    every (seasons_of s) (season_demands s) next
    every (rows_of s) (row_demands s)
