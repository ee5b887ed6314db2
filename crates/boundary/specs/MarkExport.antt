-- A filed figure and its verdict for a program in another language: numbers alone. Definitions only.
use Rattle.std.specs.Prelude.{Option, Some, None, cond, ◌≡◌, ℕ, ◌+◌, ◌≤◌, ◌<◌, eqb}
use Rattle.numbers.specs.Fraction.{Fraction, ◌≤ᶠ◌, ◌<ᶠ◌, ◌+ᶠ◌, whole}
use Rattle.marking.specs.declared.Unit.{Unit}
use Rattle.marking.specs.declared.Unit.TheVariants.{Milligram, Gram, Kilogram, Tonne}
use Rattle.marking.specs.declared.Filed.{Filed}
use Rattle.marking.specs.declared.Verdict.{Verdict}
use Rattle.marking.specs.declared.Verdict.TheVariants.{Agrees, Fits, Low, High, Unreadable}
use Rattle.marking.specs.Figure.{least, most, StandsFor, Readable}
use Rattle.marking.specs.Verdicts.{verdict}
use Rattle.marking.specs.Meaning.{InBand, Unsettled}
use Rattle.boundary.specs.declared.EvpFiled.{EvpFiled}
use Rattle.boundary.specs.declared.EvpVerdict.{EvpVerdict}

-- the unit that a number names; from 4 on it names none
unfoldable pub unit_handed : ℕ → Option Unit
unit_handed u =
    cond (eqb u 0) (Some Milligram)
    (cond (eqb u 1) (Some Gram)
    (cond (eqb u 2) (Some Kilogram)
    (cond (eqb u 3) (Some Tonne) None)))

abbrev pub figure : ℕ → ℕ → Unit → Filed
figure digits places u = record { digits = digits; places = places; unit = u }

-- a figure without a unit is not read
unfoldable pub handed_verdict : ℕ → ℕ → Option Unit → ℕ → ℕ → Verdict
handed_verdict digits places (Some u) low high = verdict (figure digits places u) low high
handed_verdict digits places None low high = Unreadable

unfoldable pub verdict_numbers : Verdict → EvpVerdict
verdict_numbers Agrees = record { verdict = 0; off = 0 }
verdict_numbers Fits = record { verdict = 1; off = 0 }
verdict_numbers (Low d) = record { verdict = 2; off = d }
verdict_numbers (High d) = record { verdict = 3; off = d }
verdict_numbers Unreadable = record { verdict = 4; off = 0 }

-- what the numbers say of one mass, as `Tells` has it of the verdict
pub record NumbersTell (f : Filed) (r : EvpVerdict) (x : Fraction) : Type 0 where
  pub agrees : r.verdict ≡ 0 → StandsFor f x
  pub low : r.verdict ≡ 2 → (most f <ᶠ x) × (most f +ᶠ whole r.off ≤ᶠ x)
  pub high : r.verdict ≡ 3 → (x <ᶠ least f) × (x +ᶠ whole r.off ≤ᶠ least f)

-- what holds of them for a figure with a unit, as `Marked` has it
pub record NumbersMark (f : Filed) (low high : ℕ) (r : EvpVerdict) : Type 0 where
  pub every : (x : Fraction) → InBand low high x → NumbersTell f r x
  pub far-low : r.verdict ≡ 2 → whole low <ᶠ most f +ᶠ whole (r.off + 1)
  pub far-high : r.verdict ≡ 3 → least f <ᶠ whole high +ᶠ whole (r.off + 1)
  pub fits : r.verdict ≡ 1 → low ≤ high → Unsettled f low high
  pub read : ¬ (r.verdict ≡ 4) → Readable f
  pub unread : r.verdict ≡ 4 → ¬ Readable f

-- what holds after the call
pub record MarkNumbers (f : EvpFiled) (low high : ℕ) (r : EvpVerdict) : Type 0 where
  pub answer-is : r ≡ verdict_numbers (handed_verdict f.digits f.places (unit_handed f.unit) low high)
  pub marked : (u : Unit) → unit_handed f.unit ≡ Some u → NumbersMark (figure f.digits f.places u) low high r
  pub no-unit : 3 < f.unit → r.verdict ≡ 4
