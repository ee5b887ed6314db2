-- "Where a sheet stops", from the side of a refusal: what each number tells of the sheet and of its place, in the figures of documents 01 and
-- 02. Proved as `conditions` in proofs/Conditions. Definitions only.
use Rattle.std.specs.Prelude.{None, List, ◌⊎◌, ◌≡◌, ℕ, ◌+◌, ◌*◌, ◌≤◌, ◌<◌, length}
use Rattle.numbers.specs.Fraction.{◌≤ᶠ◌, negᶠ, ◌/10^◌}
use Rattle.exact.specs.declared.Season.{Season}
use Rattle.exact.specs.declared.Row.{Row}
use Rattle.exact.specs.Classes.{absent}
use Rattle.exact.specs.Day.{signed_tenths}
use Rattle.exact.specs.Factors.{total}
use Rattle.refusals.specs.declared.Rule.TheVariants as rule
use Rattle.refusals.specs.Check.{Refused}
use Rattle.sheet.specs.Integers.{u8_at, u16_at}
use Rattle.sheet.specs.Versions.{version_of, rows_most, seasons_start}
use Rattle.sheet.specs.Bytes.{seasons_of, rows_of, duration_counts, hour_counts, grid_counts, row_place, season_at, row_at, equipment_at}
use Rattle.sheet.specs.Sheet.{sheet_check}
use Rattle.sheet.specs.RunningSums.{days_before, vehicles_before}
use Rattle.sheet.specs.Demands.{ExponentMost}

-- in some season, whose record starts at p, this does not hold of it and of the days before it
abbrev pub NotInSeason : List ℕ → ℕ → (Season → ℕ → Type 0) → Type 0
NotInSeason s p A = (i : ℕ) × (i < seasons_of s) × ((p ≡ seasons_start s + 8 * i) × ¬ A (season_at s i) (days_before s i))

-- in some row, whose record starts at p, this does not hold of it and of its place
abbrev pub NotInRow : List ℕ → ℕ → (Row → ℕ → Type 0) → Type 0
NotInRow s p A = (i : ℕ) × (i < rows_of s) × ((p ≡ seasons_start s + 8 * seasons_of s + 24 * i) × ¬ A (row_at s i) (row_place s i))

-- for each number, what a refusal with it says of the sheet and of its place, with the numbers of documents 01 and 02
pub record Conditions (s : List ℕ) (p : ℕ) : Type 0 where
  pub short : sheet_check s ≡ Refused rule.HeadShort p → (p ≡ 0) × ¬ (8 ≤ length s)
  pub mark : sheet_check s ≡ Refused rule.Mark p → (p ≡ 0) × ¬ (((u8_at s 0 ≡ 0x45) × (u8_at s 1 ≡ 0x56)) × (u8_at s 2 ≡ 0x50))
  pub version : sheet_check s ≡ Refused rule.Version p → (p ≡ 3) × ¬ ((1 ≤ u16_at s 3) × (u16_at s 3 ≤ 4))
  pub seasons : sheet_check s ≡ Refused rule.Seasons p → (p ≡ 5) × ¬ ((1 ≤ u8_at s 5) × (u8_at s 5 ≤ 12))
  pub rows : sheet_check s ≡ Refused rule.Rows p → (p ≡ 6) × ¬ ((1 ≤ rows_of s) × (rows_of s ≤ rows_most s))
  pub byte-7 : sheet_check s ≡ Refused rule.HeadZero p → (p ≡ 7) × ¬ (version_of s < 4 → u8_at s 7 ≡ 0)
  pub length-wrong : sheet_check s ≡ Refused rule.Length p → (p ≡ 0) × ¬ (length s ≡ seasons_start s + 8 * seasons_of s + 24 * rows_of s)
  pub durations : sheet_check s ≡ Refused rule.Durations p
      → (p ≡ 8) × ¬ (version_of s < 2 → (1 ≤ total (duration_counts s)) × (total (duration_counts s) ≤ 1000))
  pub hours : sheet_check s ≡ Refused rule.Hours p → (p ≡ 56) × ¬ (version_of s < 2 → (1 ≤ total (hour_counts s)) × (total (hour_counts s) ≤ 1000))
  pub grid : sheet_check s ≡ Refused rule.Grid p → (p ≡ 8) × ¬ (2 ≤ version_of s → (1 ≤ total (grid_counts s)) × (total (grid_counts s) ≤ 1000000))
  pub days : sheet_check s ≡ Refused rule.Days p
      → NotInSeason s p
      (λ (season : Season) (before : ℕ). ((1 ≤ season.days) × (season.days ≤ 366)) × (before + season.days ≤ 366))
  pub temperatures : sheet_check s ≡ Refused rule.Temperatures p
      → NotInSeason s p
      (λ (season : Season) (before : ℕ).
      ((negᶠ (300 /10^ 1) ≤ᶠ signed_tenths season.lowest)
      × (signed_tenths season.lowest ≤ᶠ signed_tenths season.highest))
      × (signed_tenths season.highest ≤ᶠ 500 /10^ 1))
  pub vapour-pressure : sheet_check s ≡ Refused rule.VapourPressure p
      → NotInSeason s p (λ (season : Season) (before : ℕ). (300 ≤ season.vp) × (season.vp ≤ 1100))
  pub class-technology : sheet_check s ≡ Refused rule.Class p → NotInRow s p (λ (row : Row) (place : ℕ). ¬ (equipment_at s place ≡ absent))
  pub canister-code : sheet_check s ≡ Refused rule.CanisterCode p
      → NotInRow s p (λ (row : Row) (place : ℕ). (u8_at s (place + 2) ≤ 3) ⊎ (u8_at s (place + 2) ≡ 255))
  pub percents : sheet_check s ≡ Refused rule.Percent p
      → NotInRow s p (λ (row : Row) (place : ℕ). ((row.carburettor ≤ 100) × (row.hot ≤ 100)) × (row.fill ≤ 100))
  pub vehicles : sheet_check s ≡ Refused rule.Vehicles p → NotInRow s p (λ (row : Row) (place : ℕ). row.vehicles ≤ 10000000)
  pub fleet : sheet_check s ≡ Refused rule.Fleet p
      → (i : ℕ) × (i < rows_of s) × ((p ≡ seasons_start s + 8 * seasons_of s + 24 * i)
      × ¬ (4 ≤ version_of s → vehicles_before s i + (row_at s i).vehicles ≤ 100000000))
  pub tank : sheet_check s ≡ Refused rule.Tank p → NotInRow s p (λ (row : Row) (place : ℕ). u16_at s (place + 6) ≤ 1500)
  pub trips-minutes : sheet_check s ≡ Refused rule.Trips p → NotInRow s p (λ (row : Row) (place : ℕ). (row.trips ≤ 1200) × (row.minutes ≤ 1440))
  pub loads : sheet_check s ≡ Refused rule.Load p
      → NotInRow s p (λ (row : Row) (place : ℕ). (row.load ≤ row.saturation)
      × (row.canister ≡ None → row.saturation ≡ 0))
  pub saturation : sheet_check s ≡ Refused rule.Exponent p
      → NotInRow s p (λ (row : Row) (place : ℕ). (j : ℕ) → j < seasons_of s → ExponentMost 3 row (season_at s j))
  pub bytes-20-to-23 : sheet_check s ≡ Refused rule.RowZeros p → NotInRow s p (λ (row : Row) (place : ℕ). version_of s < 3 → row.mileage ≡ 0)
  pub mileage : sheet_check s ≡ Refused rule.Mileage p
      → NotInRow s p (λ (row : Row) (place : ℕ). 3 ≤ version_of s → (row.mileage ≤ 1000000)
      × (1 ≤ row.mileage → (¬ (row.canister ≡ None) × (row.load ≡ 0)) × ((j : ℕ) → j < seasons_of s → ExponentMost 0 row (season_at s j))))

-- "a number is returned only where its condition holds"
abbrev pub ConditionsTheorem : Type 0
ConditionsTheorem = (s : List ℕ) (p : ℕ) → Conditions s p
