-- Need not be believed: what the program computes once for all rows of a season.
use Rattle.std.specs.Prelude.{Option, Some, None, List, ◌≡◌, ℕ, ◌/◌, ◌<◌}
use Rattle.numbers.specs.Lists.{tab}
use Rattle.bounds.specs.Ahead.{ahead}
use Rattle.exact.specs.declared.Canister.{Canister}
use Rattle.exact.specs.declared.Canister.TheVariants.{Small, Medium, Large}
use Rattle.exact.specs.declared.Season.{Season}
use Rattle.exact.specs.declared.Row.{Row}
use Rattle.sheet.specs.Range.{SeasonInRange, RowInRange, mark_warmth, halves}
use Rattle.marks.specs.AtMarks.{MarksOf, CanisterRaisesOf, raises_by, rates_at}
use Rattle.factors.specs.Means.{mean_units}
use Rattle.factors.specs.Units.{start_of, end_of, parking_rise, parking_rates}
use Rattle.parking.specs.declared.season_list.SeasonList.{SeasonList}
use Rattle.parking.specs.SeasonList.{ListReady}
use Rattle.starting_loads.specs.declared.loads.Line.{Line}
use Rattle.breakthrough.specs.Lines.{line_of_warmth, line_at}
use Rattle.row_factors.specs.declared.season.Means.{Means}
use Rattle.row_factors.specs.declared.season.AtSeason.{AtSeason}
use Rattle.row_factors.specs.declared.season.Day.{Day}

-- the mean of a value of the marks that the cells name
abbrev pub mean_at : List ℕ → (ℕ → ℕ) → (ℕ → ℕ) → ℕ
mean_at counts mark value = mean_units counts (λ (cell : ℕ). value (mark cell))

pub record MeansOf (season : Season) (counts : List ℕ) (m : Means) : Type 0 where
  pub rise-is : m.rise ≡ mean_units counts (parking_rise season)
  pub permeation-is : m.permeation ≡ mean_units counts (λ (cell : ℕ). parking_rates season cell / 2)
  pub soak-is : m.soak ≡ mean_at counts start_of (rates_at season 110)
  pub run_is : m.run ≡ mean_at counts end_of (rates_at season 150)
  pub end10-is : m.end10 ≡ mean_at counts end_of (raises_by season 10)
  pub start15-is : m.start15 ≡ mean_at counts start_of (raises_by season 15)
  pub end25-is : m.end25 ≡ mean_at counts end_of (raises_by season 25)
  pub start35-is : m.start35 ≡ mean_at counts start_of (raises_by season 35)
  pub start45-is : m.start45 ≡ mean_at counts start_of (raises_by season 45)
  pub end50-is : m.end50 ≡ mean_at counts end_of (raises_by season 50)
  pub start60-is : m.start60 ≡ mean_at counts start_of (raises_by season 60)

-- the rises of its parkings
abbrev pub rises_of : Season → List ℕ
rises_of season = tab (parking_rise season) 576

-- Its day: what its rows read at its 25 temperatures, by distance from 14:00.

-- a and 2·b·s of a canister with 2·s = times
abbrev pub LinesOf : Season → ℕ → List Line → Type 0
LinesOf season times lines = (d : ℕ) → d < 25 → line_at lines d ≡ line_of_warmth season.vp times (mark_warmth season (ahead d))

pub record DayReady (season : Season) (day : Day) : Type 0 where
  pub season-in : SeasonInRange season
  pub large_is : LinesOf season 1 day.large
  pub medium-is : LinesOf season 2 day.medium
  pub small_is : LinesOf season 4 day.small
  pub raises-are : CanisterRaisesOf season day.raises

-- those of a canister; without one there are none, and nothing asks for them
unfoldable pub lines_in : Day → Option Canister → List Line
lines_in day None = day.large
lines_in day (Some Large) = day.large
lines_in day (Some Medium) = day.medium
lines_in day (Some Small) = day.small

-- what is made once for all rows of a season, from the counts of the cells: its 48 temperatures and their exponential bounds, its day and
-- its means
pub record SeasonReady (counts : List ℕ) (made : AtSeason) : Type 0 where
  pub marks-of : MarksOf made.season made.marks
  pub day-ready : DayReady made.season made.day
  pub means-are : MeansOf made.season counts made.means

-- a row in range, and the list of the season's parkings where it has a canister
pub record RowReady (counts : List ℕ) (list : SeasonList) (season : Season) (row : Row) : Type 0 where
  pub row_in : RowInRange season row
  pub list-ready : 0 < halves row.canister → ListReady counts (rises_of season) list
