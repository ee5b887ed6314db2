-- What an accepted sheet is: every limit of document 01, in plain arithmetic.
-- Assumes nothing.
use Rattle.std.proofs.Common.{None}
use mathlib.Core.List.{List}
use mathlib.Core.Logic.{◌⊎◌}
use mathlib.Core.Path.{◌≡◌}
use Prim.Native.Nat.{ℕ, suc, zero, ◌+◌, ◌*◌, ◌≤◌, ◌<◌}
use native.Mathlib.Omega.{arith}
use lib.ListN.{length, get_or}
use Rattle.exact.specs.Classes.{absent, equipment}
use Rattle.exact.specs.Factors.{total}
use Rattle.refusals.specs.Check.{Pass}
use Rattle.sheet.specs.Limits.{version_limit, seasons_limit, counts_limit, grid_limit, days_limit, vp_least, vp_limit}
use Rattle.sheet.specs.Limits.{percent_limit, tank_limit, vehicles_limit, fleet_limit, trips_limit, minutes_limit}
use Rattle.sheet.specs.Integers.{u8_at, u16_at}
use Rattle.sheet.specs.Versions.{version_of, rows_most, seasons_start}
use Rattle.sheet.specs.Bytes.{seasons_of, rows_of, duration_counts, hour_counts, grid_counts, season_place, row_place}
use Rattle.sheet.specs.Bytes.{season_from, season_at, row_from, row_at, equipment_at, tank_of}
use Rattle.sheet.specs.Sheet.{sheet_check}
use Rattle.sheet.specs.RunningSums.{days_before, vehicles_before}
use Rattle.sheet.specs.Range.{SeasonInRange}
use Rattle.sheet.specs.Demands.{Met}
use Rattle.sheet.proofs.Equipment.{equipment-tank, equipment-class}
use Rattle.sheet.proofs.Temperature.{season-in-range}
use Rattle.sheet.specs.Demands.{season_demands, row_demands, ExponentMost, MileageRight}
use Rattle.sheet.proofs.Conditions.{sheet-judged}

-- each element is a byte
pub record Bytes (s : List ℕ) : Type 0 where
  pub byte : (k : ℕ) → get_or s k 0 < 256

-- season i, counted from 0
pub record AcceptedSeason (s : List ℕ) (i : ℕ) : Type 0 where
  pub days-least : 1 ≤ (season_at s i).days
  pub days-most : (season_at s i).days ≤ days_limit
  pub days-together : days_before s (suc i) ≤ days_limit
  pub vp-least : vp_least ≤ (season_at s i).vp
  pub vp-most : (season_at s i).vp ≤ vp_limit
  pub in-range : Bytes s → SeasonInRange (season_at s i)

-- row i, counted from 0
pub record AcceptedRow (s : List ℕ) (i : ℕ) : Type 0 where
  pub present : ¬ (equipment_at s (row_place s i) ≡ absent)
  pub class-least : 1 ≤ (row_at s i).class
  pub class-most : (row_at s i).class ≤ 9
  pub code : (u8_at s (row_place s i + 2) ≤ 3) ⊎ (u8_at s (row_place s i + 2) ≡ 255)
  pub carburettor-most : (row_at s i).carburettor ≤ percent_limit
  pub hot-most : (row_at s i).hot ≤ percent_limit
  pub fill-most : (row_at s i).fill ≤ percent_limit
  pub vehicles-most : (row_at s i).vehicles ≤ vehicles_limit
  pub fleet-most : 4 ≤ version_of s → vehicles_before s (suc i) ≤ fleet_limit
  pub tank-least : 1 ≤ (row_at s i).tank
  pub tank-most : (row_at s i).tank ≤ tank_limit
  pub trips-most : (row_at s i).trips ≤ trips_limit
  pub minutes-most : (row_at s i).minutes ≤ minutes_limit
  pub load-most : (row_at s i).load ≤ (row_at s i).saturation
  pub no-load : (row_at s i).canister ≡ None → ((row_at s i).load ≡ 0) × ((row_at s i).saturation ≡ 0)
  pub exponent : (j : ℕ) → j < seasons_of s → ExponentMost 3 (row_at s i) (season_at s j)
  pub no-mileage : version_of s < 3 → (row_at s i).mileage ≡ 0
  pub mileage : 3 ≤ version_of s → MileageRight s (row_at s i)

-- the whole sheet
pub record Accepted (s : List ℕ) : Type 0 where
  pub length-is : length s ≡ seasons_start s + 8 * seasons_of s + 24 * rows_of s
  pub version-least : 1 ≤ version_of s
  pub version-most : version_of s ≤ version_limit
  pub seasons-least : 1 ≤ seasons_of s
  pub seasons-most : seasons_of s ≤ seasons_limit
  pub rows-least : 1 ≤ rows_of s
  pub rows-most : rows_of s ≤ rows_most s
  pub durations : version_of s < 2 → (1 ≤ total (duration_counts s)) × (total (duration_counts s) ≤ counts_limit)
  pub hours : version_of s < 2 → (1 ≤ total (hour_counts s)) × (total (hour_counts s) ≤ counts_limit)
  pub grid : 2 ≤ version_of s → (1 ≤ total (grid_counts s)) × (total (grid_counts s) ≤ grid_limit)
  pub season : (i : ℕ) → i < seasons_of s → AcceptedSeason s i
  pub days-most : days_before s (seasons_of s) ≤ days_limit
  pub row : (i : ℕ) → i < rows_of s → AcceptedRow s i

-- two bytes are 16 bits
pub u16-bits : {s : List ℕ} → Bytes s → (k : ℕ) → u16_at s k < 65536
u16-bits b k = omega (arith, b.byte k, b.byte (k + 1))

season-accepted : (s : List ℕ) (i : ℕ) → Met (season_demands s i) → AcceptedSeason s i
unfolding season_at season_from days_before
season-accepted s i (((least, most), together), (((cold, order), warm), (vp-least, vp-most))) = record {
  days-least = least;
  days-most = most;
  days-together = together;
  vp-least = vp-least;
  vp-most = vp-most;
  in-range = λ b. season-in-range (u16-bits b (season_place s i + 2)) (u16-bits b (season_place s i + 4)) cold order warm vp-most;
}

-- a tank that is written, or the class's
tank-between : (written class technology : ℕ) → ¬ (equipment class technology ≡ absent) → written ≤ tank_limit
    → (1 ≤ tank_of written (equipment class technology)) × (tank_of written (equipment class technology) ≤ tank_limit)
unfolding tank_of
tank-between zero class technology n h = let (low, high) = equipment-tank class technology n in (omega arith, omega arith)
tank-between (suc tenths) class technology n h = (omega arith, h)

pub row-accepted : (s : List ℕ) (i : ℕ) → Met (row_demands s i) → AcceptedRow s i
unfolding row_at row_from equipment_at vehicles_before
row-accepted s i (
  present,
  (
    code,
    (
      ((carburettor, hot), fill),
      (vehicles, (fleet, (tank, ((trips, minutes), ((load, none), (exponent, (bytes, mileage))))))),
    ),
  ),
) =
    let (tank-least, tank-most) = tank-between (u16_at s (row_place s i + 6)) (u8_at s (row_place s i)) (u8_at s (row_place s i + 1)) present tank in
    let (class-least, class-most) = equipment-class (u8_at s (row_place s i)) (u8_at s (row_place s i + 1)) present in
    record {
      present = present;
      class-least = class-least;
      class-most = class-most;
      code = code;
      carburettor-most = carburettor;
      hot-most = hot;
      fill-most = fill;
      vehicles-most = vehicles;
      fleet-most = fleet;
      tank-least = tank-least;
      tank-most = tank-most;
      trips-most = trips;
      minutes-most = minutes;
      load-most = load;
      no-load = λ e. let z = none e in (omega arith, z);
      exponent = exponent;
      no-mileage = bytes;
      mileage = mileage;
    }

-- the days of all seasons together, from those up to each
days-together : (s : List ℕ) (n : ℕ) → ((i : ℕ) → i < n → days_before s (suc i) ≤ days_limit) → days_before s n ≤ days_limit
unfolding days_before
days-together s zero h = omega arith
days-together s (suc n) h = h n (omega arith)

-- a sheet that no number refuses is accepted
pub accepted : (s : List ℕ) → sheet_check s ≡ Pass → Accepted s
accepted s h =
    let (head, (length-is, ((durations, (hours, grid)), (seasons, rows)))) = (sheet-judged s).passes h in
    let (mark, (version, (season-count, (row_count, zero-byte)))) = head in
    record {
      length-is = length-is;
      version-least = version.0;
      version-most = version.1;
      seasons-least = season-count.0;
      seasons-most = season-count.1;
      rows-least = row_count.0;
      rows-most = row_count.1;
      durations = durations;
      hours = hours;
      grid = grid;
      season = λ i l. season-accepted s i (seasons i l);
      days-most = days-together s (seasons_of s) (λ i l. (season-accepted s i (seasons i l)).days-together);
      row = λ i l. row-accepted s i (rows i l);
    }
