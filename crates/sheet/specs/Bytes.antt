-- The fields of a sheet as documents 01 and 02 place them. Definitions only.
use Rattle.std.specs.Prelude.{true, false, List, [], ◌∷◌, Option, Some, None, ℕ, suc, zero, ◌+◌, ◌*◌, eqb}
use Rattle.exact.specs.declared.Canister.{Canister}
use Rattle.exact.specs.declared.Canister.TheVariants.{Small, Medium, Large}
use Rattle.exact.specs.declared.Fitted.{Fitted}
use Rattle.exact.specs.declared.Season.{Season}
use Rattle.exact.specs.declared.Row.{Row}
use Rattle.exact.specs.Classes.{equipment}
use Rattle.exact.specs.Factors.{products}
use Rattle.sheet.specs.Integers.{u8_at, u16_at, u32_at}
use Rattle.sheet.specs.Versions.{has_grid, has_many_rows, seasons_start}

-- "Head, 8 bytes: letters EVP (hexadecimal 45 56 50); u16 version 1; u8 seasons S, 1 to 12; u8 rows R, 1 to 32; a zero byte."
abbrev pub seasons_of : List ℕ → ℕ
seasons_of s = u8_at s 5

unfoldable pub rows_of : List ℕ → ℕ
rows_of s = elim (has_many_rows s) [ true ↦ u16_at s 6 | false ↦ u8_at s 6 ]

-- n u16 counts from place i on
unfoldable pub counts_at : List ℕ → ℕ → ℕ → List ℕ
counts_at s i zero = []
counts_at s i (suc n) = u16_at s i ∷ counts_at s (i + 2) n

-- "Parking, 96 bytes: 24 u16 counts for durations 0.5, 1, .. 12 h, then 24 u16 counts for end hours 1 to 24."
unfoldable pub duration_counts : List ℕ → List ℕ
duration_counts s = counts_at s 8 24

unfoldable pub hour_counts : List ℕ → List ℕ
hour_counts s = counts_at s 56 24

-- "576 u16 counts, end hour 1 first, its 24 durations in a row"
unfoldable pub grid_counts : List ℕ → List ℕ
grid_counts s = counts_at s 8 576

-- the counts of the 576 cells: with a grid its own, "a cell weighs count over sum"; else the products, "the cell of counts j and q
-- weighs j·q/(P·Q)"
unfoldable pub cells_of : List ℕ → List ℕ
cells_of s = elim (has_grid s) [ true ↦ grid_counts s | false ↦ products (duration_counts s) (hour_counts s) ]

-- where season i and row i start, counted from 0
abbrev pub season_place : List ℕ → ℕ → ℕ
season_place s i = seasons_start s + 8 * i

abbrev pub row_place : List ℕ → ℕ → ℕ
row_place s i = seasons_start s + 8 * seasons_of s + 24 * i

-- "Season, 8 bytes: u16 days .. i16 lowest and i16 highest temperature .. u16 vapour pressure vp", the record that starts at p
unfoldable pub season_from : List ℕ → ℕ → Season
season_from s p = record { days = u16_at s p; lowest = u16_at s (p + 2); highest = u16_at s (p + 4); vp = u16_at s (p + 6) }

unfoldable pub season_at : List ℕ → ℕ → Season
season_at s i = season_from s (season_place s i)

-- seasons from i on, n of them; all of them
unfoldable pub seasons_from : List ℕ → ℕ → ℕ → List Season
seasons_from s i zero = []
seasons_from s i (suc n) = season_at s i ∷ seasons_from s (suc i) n

unfoldable pub season_list : List ℕ → List Season
season_list s = seasons_from s 0 (seasons_of s)

-- what the class and technology written at p stand for
unfoldable pub equipment_at : List ℕ → ℕ → Option Fitted
equipment_at s p = equipment (u8_at s p) (u8_at s (p + 1))

unfoldable pub fitted_canister : Option Fitted → Option Canister
fitted_canister None = None
fitted_canister (Some e) = e.canister

unfoldable pub fitted_tank : Option Fitted → ℕ
fitted_tank None = 0
fitted_tank (Some e) = e.tank

-- "canister (0 none, 1 small, 2 medium, 3 large, 255 by class)"; any other code is refused
unfoldable pub written_canister : ℕ → Option Canister
written_canister zero = None
written_canister (suc zero) = Some Small
written_canister (suc (suc zero)) = Some Medium
written_canister (suc (suc (suc zero))) = Some Large
written_canister (suc (suc (suc (suc code)))) = None

unfoldable pub canister_of : ℕ → Option Fitted → Option Canister
canister_of code e = elim (eqb code 255) [ true ↦ fitted_canister e | false ↦ written_canister code ]

-- "u16 tank in tenths of a litre, 0 by class"
unfoldable pub tank_of : ℕ → Option Fitted → ℕ
tank_of zero e = fitted_tank e
tank_of (suc tenths) e = suc tenths

-- "Row, 24 bytes: 0 class; 1 technology; 2 canister .. 3 share c of carburettor or fuel-return vehicles; 4 hot-trip share p;
-- 5 fill level h .. 6 u16 tank .. 8 u32 vehicles .. 12 u16 trips a day in hundredths .. 14 u16 minutes per trip ..
-- 16 u16 canister load at parking start, 18 u16 saturating load m_sat .. 20 four zero bytes", which version 3 reads as "a u32 mileage M in
-- km; 0 keeps the written load". The record that starts at p.
unfoldable pub row_from : List ℕ → ℕ → Row
row_from s p = record {
  class = u8_at s p;
  canister = canister_of (u8_at s (p + 2)) (equipment_at s p);
  carburettor = u8_at s (p + 3);
  hot = u8_at s (p + 4);
  fill = u8_at s (p + 5);
  tank = tank_of (u16_at s (p + 6)) (equipment_at s p);
  vehicles = u32_at s (p + 8);
  trips = u16_at s (p + 12);
  minutes = u16_at s (p + 14);
  load = u16_at s (p + 16);
  saturation = u16_at s (p + 18);
  mileage = u32_at s (p + 20);
}

unfoldable pub row_at : List ℕ → ℕ → Row
row_at s i = row_from s (row_place s i)
