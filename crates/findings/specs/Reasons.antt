-- The reasons of the table by rule and in their order: the rule, whose number stands behind the line, and which of its reasons it is, from 1.
-- Definitions only.
use Rattle.std.specs.Prelude.{ℕ}
use Rattle.refusals.specs.declared.Rule.{Rule}
use Rattle.refusals.specs.declared.Rule.TheVariants as rule
use Rattle.findings.specs.declared.reasons.Reason.{Reason}
use Rattle.findings.specs.declared.reasons.Reason.TheVariants as reason

-- the rule of a reason, and its place among those of the rule
pub record Numbered : Type 0 where
  pub rule : Rule
  pub nth : ℕ

abbrev pub numbered : Rule → ℕ → Numbered
numbered r n = record { rule = r; nth = n }

unfoldable pub numbers_of : Reason → Numbered
numbers_of reason.HeadShort = numbered rule.HeadShort 1  -- 1 1
numbers_of reason.LetterE = numbered rule.Mark 1  -- 2 1
numbers_of reason.LetterV = numbered rule.Mark 2  -- 2 2
numbers_of reason.LetterP = numbered rule.Mark 3  -- 2 3
numbers_of reason.Version = numbered rule.Version 1  -- 3 1
numbers_of reason.Seasons = numbered rule.Seasons 1  -- 4 1
numbers_of reason.Rows = numbered rule.Rows 1  -- 5 1
numbers_of reason.HeadZero = numbered rule.HeadZero 1  -- 6 1
numbers_of reason.Length = numbered rule.Length 1  -- 7 1
numbers_of reason.Durations = numbered rule.Durations 1  -- 8 1
numbers_of reason.Hours = numbered rule.Hours 1  -- 9 1
numbers_of reason.Grid = numbered rule.Grid 1  -- 24 1
numbers_of reason.Days = numbered rule.Days 1  -- 10 1
numbers_of reason.DaysSoFar = numbered rule.Days 2  -- 10 2
numbers_of reason.Lowest = numbered rule.Temperatures 1  -- 11 1
numbers_of reason.Highest = numbered rule.Temperatures 2  -- 11 2
numbers_of reason.LowestAboveHighest = numbered rule.Temperatures 3  -- 11 3
numbers_of reason.VapourPressure = numbered rule.VapourPressure 1  -- 12 1
numbers_of reason.Class = numbered rule.Class 1  -- 13 1
numbers_of reason.Technology = numbered rule.Class 2  -- 13 2
numbers_of reason.CanisterCode = numbered rule.CanisterCode 1  -- 14 1
numbers_of reason.Carburettor = numbered rule.Percent 1  -- 15 1
numbers_of reason.Hot = numbered rule.Percent 2  -- 15 2
numbers_of reason.Fill = numbered rule.Percent 3  -- 15 3
numbers_of reason.Vehicles = numbered rule.Vehicles 1  -- 16 1
numbers_of reason.Fleet = numbered rule.Fleet 1  -- 26 1
numbers_of reason.Tank = numbered rule.Tank 1  -- 17 1
numbers_of reason.Trips = numbered rule.Trips 1  -- 18 1
numbers_of reason.Minutes = numbered rule.Trips 2  -- 18 2
numbers_of reason.LoadAboveSaturation = numbered rule.Load 1  -- 19 1
numbers_of reason.LoadWithoutCanister = numbered rule.Load 2  -- 19 2
numbers_of reason.SaturationWithoutCanister = numbered rule.Load 3  -- 19 3
numbers_of reason.Exponent = numbered rule.Exponent 1  -- 20 1
numbers_of reason.RowZeros = numbered rule.RowZeros 1  -- 21 1
numbers_of reason.Mileage = numbered rule.Mileage 1  -- 25 1
numbers_of reason.MileageWithoutCanister = numbered rule.Mileage 2  -- 25 2
numbers_of reason.LoadBesideMileage = numbered rule.Mileage 3  -- 25 3
numbers_of reason.ExponentBesideMileage = numbered rule.Mileage 4  -- 25 4

abbrev pub rule_of : Reason → Rule
rule_of x = (numbers_of x).rule

abbrev pub nth_of : Reason → ℕ
nth_of x = (numbers_of x).nth
