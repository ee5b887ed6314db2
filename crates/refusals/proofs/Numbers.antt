-- The numbers of the conditions are their places in the declaration, from 1 on, and none is 0.
-- Assumes nothing.
use Rattle.std.proofs.Common.{◌≡◌, ◌+◌, ◌<◌, refl, arith, Ok, Err}
use Rattle.refusals.specs.declared.Rule.{Rule}
use Rattle.refusals.specs.declared.Rule.TheVariants as rule
use Rattle.refusals.specs.Rule.{number}
use Rattle.refusals.specs.Check.{Check, Pass, number_of}
use Rattle.refusals.specs.contracts.Rule.{the_type}
use denote.Enum.Declared.{tag_of}

pub number-is : (r : Rule) → tag_of the_type r + 1 ≡ number r
unfolding number
number-is rule.HeadShort = refl
number-is rule.Mark = refl
number-is rule.Version = refl
number-is rule.Seasons = refl
number-is rule.Rows = refl
number-is rule.HeadZero = refl
number-is rule.Length = refl
number-is rule.Durations = refl
number-is rule.Hours = refl
number-is rule.Days = refl
number-is rule.Temperatures = refl
number-is rule.VapourPressure = refl
number-is rule.Class = refl
number-is rule.CanisterCode = refl
number-is rule.Percent = refl
number-is rule.Vehicles = refl
number-is rule.Tank = refl
number-is rule.Trips = refl
number-is rule.Load = refl
number-is rule.Exponent = refl
number-is rule.RowZeros = refl
number-is rule.Room = refl
number-is rule.Absent = refl
number-is rule.Grid = refl
number-is rule.Mileage = refl
number-is rule.Fleet = refl
number-is rule.Cell = refl
number-is rule.Travel = refl
number-is rule.Count = refl
number-is rule.Right = refl
number-is rule.Share = refl
number-is rule.Differ = refl

-- no rule has the number 0, which stands for an accepted sheet
pub number-above : (r : Rule) → 0 < number r
number-above r = let e = number-is r in omega (arith, e)

-- an answer with the number 0 has passed
pub zero-passes : (c : Check) → number_of c ≡ 0 → c ≡ Pass
unfolding number_of
zero-passes (Ok _) h = refl
zero-passes (Err refusal) h = let above = number-above refusal.rule in absurd (omega (arith, above, h))
