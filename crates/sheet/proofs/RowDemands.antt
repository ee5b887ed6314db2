-- The demands on a row are carried to a sheet that has the same row and the same seasons; what its version asks is shown apart.
-- Assumes nothing.
use mathlib.Core.List.{List}
use mathlib.Core.Path.{◌≡◌, refl}
use Prim.Native.Nat.{ℕ, ◌+◌, ◌≤◌, ◌<◌}
use native.Mathlib.Omega.{arith}
use Rattle.exact.specs.declared.Row.{Row}
use Rattle.sheet.specs.Limits.{vehicles_limit, fleet_limit}
use Rattle.sheet.specs.Integers.{u8_at, u16_at}
use Rattle.sheet.specs.Versions.{version_of}
use Rattle.sheet.specs.Bytes.{seasons_of, row_place, season_at, row_at, equipment_at}
use Rattle.sheet.specs.RunningSums.{vehicles_before}
use Rattle.sheet.specs.Demands.{Met, ExponentMost, MileageRight, row_demands}
use Rattle.sheet.proofs.Local.{Same, byte_at, word_at, equipment-same, row_same}

-- a row with v vehicles
abbrev pub with_vehicles : Row → ℕ → Row
with_vehicles row v = record {
  class = row.class;
  canister = row.canister;
  carburettor = row.carburettor;
  hot = row.hot;
  fill = row.fill;
  tank = row.tank;
  vehicles = v;
  trips = row.trips;
  minutes = row.minutes;
  load = row.load;
  saturation = row.saturation;
  mileage = row.mileage;
}

-- t has the row and the seasons of s
pub record RowKept (s t : List ℕ) (i : ℕ) : Type 0 where
  pub bytes : Same t s (row_place t i) (row_place s i) 24
  pub seasons : seasons_of t ≡ seasons_of s
  pub season : (j : ℕ) → j < seasons_of s → season_at t j ≡ season_at s j

-- what the version of t asks of the row
pub record VersionMet (t : List ℕ) (i : ℕ) : Type 0 where
  pub fleet : 4 ≤ version_of t → vehicles_before t i + (row_at t i).vehicles ≤ fleet_limit
  pub bytes : version_of t < 3 → (row_at t i).mileage ≡ 0
  pub mileage : 3 ≤ version_of t → MileageRight t (row_at t i)

-- t has the seasons of s and the row but for its vehicles
pub record RowBut (s t : List ℕ) (i : ℕ) : Type 0 where
  pub equipment : equipment_at t (row_place t i) ≡ equipment_at s (row_place s i)
  pub code : u8_at t (row_place t i + 2) ≡ u8_at s (row_place s i + 2)
  pub tank : u16_at t (row_place t i + 6) ≡ u16_at s (row_place s i + 6)
  pub row : row_at t i ≡ with_vehicles (row_at s i) (row_at t i).vehicles
  pub seasons : seasons_of t ≡ seasons_of s
  pub season : (j : ℕ) → j < seasons_of s → season_at t j ≡ season_at s j

-- every demand but those on the vehicles and of the version is carried over
pub row-met-but : {s t : List ℕ} {i : ℕ} → RowBut s t i → (row_at t i).vehicles ≤ vehicles_limit → VersionMet t i
    → Met (row_demands s i) → Met (row_demands t i)
row-met-but {s} {t} {i} k most v (present, (code, (percents, (vehicles, (fleet, (tank, (driving, (load, (exponent, rest))))))))) =
    let exponent-kept : (j : ℕ) → j < seasons_of t → ExponentMost 3 (row_at t i) (season_at t j) = λ j l.
    let in-s : j < seasons_of s = omega (arith, k.seasons) in
    rw (k.row, k.season j in-s) (exponent j in-s) in (
      rw k.equipment present,
      (
        rw k.code code,
        (
          rw k.row percents,
          (most, (v.fleet, (omega (arith, k.tank), (rw k.row driving, (rw k.row load, (exponent-kept, (v.bytes, v.mileage))))))),
        ),
      ),
    )

module _ {s t : List ℕ} {i : ℕ} (k : RowKept s t i) where
  pub row_kept : row_at t i ≡ row_at s i
  unfolding row_at
  row_kept = row_same k.bytes

  but : RowBut s t i
  but = record {
    equipment = equipment-same k.bytes (omega arith);
    code = byte_at k.bytes 2 _ _ refl refl (omega arith);
    tank = word_at k.bytes 6 _ _ refl refl (omega arith);
    row = rw row_kept refl;
    seasons = k.seasons;
    season = k.season;
  }

  pub row-met : VersionMet t i → Met (row_demands s i) → Met (row_demands t i)
  row-met v met = row-met-but but (rw row_kept met.1.1.1.0) v met
