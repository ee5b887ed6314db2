-- What is promised of a row's mass of one mechanism: a band that holds the exact mass and is narrow. Definitions only.
use Rattle.std.specs.Prelude.{List, [], ◌∷◌, ℕ, ◌+◌, ◌*◌, ◌≤◌}
use Rattle.numbers.specs.Fraction.{◌≤ᶠ◌, ◌*ᶠ◌, whole}
use Rattle.exact.specs.declared.Season.{Season}
use Rattle.exact.specs.declared.Row.{Row}
use Rattle.exact.specs.Masses.{Mechanism, diurnal, soak, running, mass}

-- "the days of all seasons"
unfoldable pub all_days : List Season → ℕ
all_days [] = 0
all_days (season ∷ seasons) = season.days + all_days seasons

-- how often a vehicle counts a day, in hundredths: once for diurnal, with each trip for soak and running
unfoldable pub hundredths : Row → Mechanism → ℕ
hundredths row diurnal = 100
hundredths row soak = row.trips
hundredths row running = row.trips

-- "Each of a row's three exact masses in grams, times 1,000, is at least its low and at most its high." With V the row's vehicles times
-- the days of all seasons, high less low is at most V/100 + 2 for diurnal and V·trips/100 + 2 for soak and for running: "A row's width
-- per vehicle and day, or trip, falls to a hundredth of a milligram, the two milligrams kept." Times 10,000, since trips are in hundredths.
pub record MassBand (counts : List ℕ) (seasons : List Season) (row : Row) (mechanism : Mechanism) (low high : ℕ) : Type 0 where
  pub above : (n : ℕ) → 40 ≤ n → whole low ≤ᶠ mass n counts seasons row mechanism *ᶠ whole 1000
  pub below : (n : ℕ) → 40 ≤ n → mass n counts seasons row mechanism *ᶠ whole 1000 ≤ᶠ whole high
  pub narrow : 10000 * high ≤ 10000 * low + row.vehicles * all_days seasons * hundredths row mechanism + 20000
