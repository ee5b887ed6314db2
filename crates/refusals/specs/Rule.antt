-- The numbers of the conditions for a refusal: those of the table "Where a sheet stops" of document 01, and those that the requests of document 02
-- add. Definitions only.
use Rattle.std.specs.Prelude.{ℕ}
use Rattle.refusals.specs.declared.Rule.{Rule}
use Rattle.refusals.specs.declared.Rule.TheVariants.{HeadShort, Mark, Version, Seasons, Rows, HeadZero, Length, Durations, Hours, Days, Temperatures}
use Rattle.refusals.specs.declared.Rule.TheVariants.{VapourPressure, Class, CanisterCode, Percent, Vehicles, Tank}
use Rattle.refusals.specs.declared.Rule.TheVariants.{Trips, Load, Exponent, RowZeros, Room}
use Rattle.refusals.specs.declared.Rule.TheVariants.{Absent, Grid, Mileage, Fleet, Cell, Travel, Count, Right, Share, Differ}

-- "a definition gives this paper's number and values for each of the enum's cases": the number of a rule
unfoldable pub number : Rule → ℕ
number HeadShort = 1
number Mark = 2
number Version = 3
number Seasons = 4
number Rows = 5
number HeadZero = 6
number Length = 7
number Durations = 8
number Hours = 9
number Days = 10
number Temperatures = 11
number VapourPressure = 12
number Class = 13
number CanisterCode = 14
number Percent = 15
number Vehicles = 16
number Tank = 17
number Trips = 18
number Load = 19
number Exponent = 20
number RowZeros = 21
number Room = 22
number Absent = 23
number Grid = 24
number Mileage = 25
number Fleet = 26
number Cell = 27
number Travel = 28
number Count = 29
number Right = 30
number Share = 31
number Differ = 32
