-- Document 02's request Two: "For any mark temperatures a season can have, the bounds carried after d half-hours are shown to enclose
-- document 01's sum over that parking's rising steps." Definitions only.
use Rattle.std.specs.Prelude.{List, ◌≡◌, ℕ, ◌+◌, ◌*◌, ◌-◌, ◌^◌, ◌≤◌, ◌<◌}
use Rattle.numbers.specs.Fraction.{Fraction, ◌≤ᶠ◌, ◌≈ᶠ◌, negᶠ, ◌*ᶠ◌, ◌/10^◌}
use Rattle.numbers.specs.Lists.{tab, at}
use Rattle.bounds.specs.Enclosure.{WithinAll}
use Rattle.exact.specs.declared.Season.{Season}
use Rattle.exact.specs.Day.{signed_tenths, temperature}
use Rattle.exact.specs.Vapour.{parking_vapour}
use Rattle.exact.specs.Rise.{rises, gain}
use Rattle.sheet.specs.Limits.{cold_limit, warm_limit}
use Rattle.sheet.specs.Range.{mark_warmth}
use Rattle.marks.specs.Marks.{step_at, rise_error}
use Rattle.parking.specs.Walk.{steps_back, walked}

-- a season that number 11 lets pass: "each −300 to 500, lowest not above highest", in tenths of °C and 16 bits
pub record SeasonAllowed (season : Season) : Type 0 where
  pub bits : (season.lowest < 65536) × (season.highest < 65536)
  pub cold : negᶠ (cold_limit /10^ 1) ≤ᶠ signed_tenths season.lowest
  pub order : signed_tenths season.lowest ≤ᶠ signed_tenths season.highest
  pub warm : signed_tenths season.highest ≤ᶠ warm_limit /10^ 1

-- the rises from each of its 48 marks to the next, in units of 2⁻⁴⁰: what `at_marks` of marks gives as `step`
abbrev pub season_steps : Season → List ℕ
season_steps season = tab (step_at (mark_warmth season)) 48

-- what an end hour's column has after d half-hours: what `column` carries then
abbrev pub carried_after : List ℕ → ℕ → ℕ → ℕ
carried_after values hour d = at (steps_back values hour 0 0 24) (d - 1)

-- of the parking of d half-hours that ends at an hour
pub record CarriedRise (season : Season) (hour d : ℕ) : Type 0 where
  -- what is carried, less the error, and that plus twice the error, enclose the sum over the steps that rise, for every n from 40 upward
  pub encloses :
      WithinAll (2 ^ 40) (carried_after (season_steps season) hour d - rise_error) (2 * rise_error) (λ n. rises n (temperature season) hour d)
  -- document 01's vapour of the parking is that sum, times what no step changes
  pub vapour : (n : ℕ) (vp fill tank : Fraction)
      → parking_vapour n vp fill tank (temperature season) hour d ≈ᶠ gain n vp fill tank *ᶠ rises n (temperature season) hour d
  -- the walk over all end hours has it at the parking's cell
  pub in_cell : at (walked (season_steps season) 24) (24 * (hour - 1) + (d - 1)) ≡ carried_after (season_steps season) hour d

-- so it is in every season, for every end hour and every duration
abbrev pub CarriedTheorem : Type 0
CarriedTheorem = (season : Season) → SeasonAllowed season → (hour d : ℕ) → 1 ≤ hour → hour ≤ 24 → 1 ≤ d → d ≤ 24 → CarriedRise season hour d
