-- The rises of a season's parkings are those that its rows are given.
-- Assumes nothing.
use mathlib.Core.List.{List}
use mathlib.Core.Path.{◌≡◌, ◌∙◌, ap}
use Prim.Native.Nat.{ℕ, ◌-◌, ◌^◌}
use native.Mathlib.Omega.{arith}
use Rattle.numbers.specs.Lists.{tab}
use Rattle.numbers.specs.Bounded.{AllAtMost}
use Rattle.numbers.proofs.Lists.{tab-ext, tab-at-most}
use Rattle.exact.specs.declared.Season.{Season}
use Rattle.marks.specs.declared.MarkValues.{MarkValues}
use Rattle.sheet.specs.Range.{SeasonInRange, mark_warmth}
use Rattle.marks.specs.Marks.{step_at, rise_error}
use Rattle.marks.specs.AtMarks.{AtMarks}
use Rattle.marks.proofs.Rise.{step-most}
use Rattle.sheet.proofs.Temperature.{warmth-most}
use Rattle.factors.specs.Units.{parking_rise}
use Rattle.parking.specs.Grid.{passed_in}
use Rattle.parking.proofs.Passed.{passed_in-tab}
use Rattle.row_factors.specs.Season.{rises_of}

-- the steps of a season's day
pub steps-most : {season : Season} {marks : MarkValues} → SeasonInRange season → AtMarks season marks → AllAtMost (2 ^ 50) marks.step
steps-most {season} s m =
    tab-at-most _ 48 m.step_is (λ mark _. omega (arith, step-most (mark_warmth season) (λ i. warmth-most i s) mark))

-- what passed of them, less the error, are the rises of the parkings
pub rises-are : {season : Season} {marks : MarkValues} {rises : List ℕ} → AtMarks season marks
    → rises ≡ tab (λ (cell : ℕ). passed_in marks.step cell - rise_error) 576 → rises ≡ rises_of season
unfolding parking_rise
rises-are {season} m e =
    e ∙ tab-ext 576 (λ cell _. ap (λ (x : ℕ). x - rise_error) (passed_in-tab (step_at (mark_warmth season)) m.step_is cell))
