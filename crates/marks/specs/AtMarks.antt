-- Need not be believed: what the computed values of a season at its day marks are.
use Rattle.std.specs.Prelude.{List, ◌≡◌, ℕ, ◌+◌}
use Rattle.numbers.specs.Lists.{tab}
use Rattle.bounds.specs.Ahead.{ahead}
use Rattle.exact.specs.declared.Season.{Season}
use Rattle.marks.specs.declared.Marks.{Marks}
use Rattle.marks.specs.declared.CanisterRaises.{CanisterRaises}
use Rattle.marks.specs.declared.MarkValues.{MarkValues}
use Rattle.sheet.specs.Range.{mark_warmth}
use Rattle.marks.specs.Marks.{heat, step_at, raise, tenths, rate}

-- the raises of a mark's temperature by so many tenths of °C
abbrev pub raises_by : Season → ℕ → ℕ → ℕ
raises_by season k i = raise (tenths k) (mark_warmth season i)

-- the same by distance from 14:00, of the mark so far before it
abbrev pub day_raises : Season → ℕ → List ℕ
day_raises season k = tab (λ (d : ℕ). raises_by season k (ahead d)) 25

-- permeation per hour at a mark whose temperature is raised by so many tenths of °C
abbrev pub rates_at : Season → ℕ → ℕ → ℕ
rates_at season k i = rate season.vp (mark_warmth season i + tenths k)

-- the 48 temperatures of a season, and the lower bounds of E(0.0716·T) at them
pub record MarksOf (season : Season) (m : Marks) : Type 0 where
  pub temperature-is : m.temperature ≡ tab (mark_warmth season) 48
  pub exponential-is : m.exponential ≡ tab (λ (i : ℕ). heat (mark_warmth season i)) 48

-- the raises that a canister meets, by distance from 14:00
pub record CanisterRaisesOf (season : Season) (r : CanisterRaises) : Type 0 where
  pub raise10-is : r.raise10.by_distance ≡ day_raises season 10
  pub raise15-is : r.raise15.by_distance ≡ day_raises season 15
  pub raise25-is : r.raise25.by_distance ≡ day_raises season 25
  pub raise35-is : r.raise35.by_distance ≡ day_raises season 35
  pub raise45-is : r.raise45.by_distance ≡ day_raises season 45
  pub raise60-is : r.raise60.by_distance ≡ day_raises season 60

-- each list is that of its value at marks 0 to 47, or by distance from 14:00 that of the mark so far before it
pub record AtMarks (season : Season) (m : MarkValues) : Type 0 where
  pub marks-of : MarksOf season m.marks
  pub warmths-are : m.warmths.by_distance ≡ tab (λ (d : ℕ). mark_warmth season (ahead d)) 25
  pub step_is : m.step ≡ tab (step_at (mark_warmth season)) 48
  pub rate-is : m.rate ≡ tab (λ (i : ℕ). rate season.vp (mark_warmth season i)) 48
  pub soak-is : m.soak ≡ tab (λ (d : ℕ). rates_at season 110 (ahead d)) 25
  pub run_is : m.run ≡ tab (λ (d : ℕ). rates_at season 150 (ahead d)) 25
  pub raises-are : CanisterRaisesOf season m.raises
  pub raise50-is : m.raise50.by_distance ≡ day_raises season 50
