-- Need not be believed: the counts of a sheet's parking cells, and the sums over them that the program uses.
use Rattle.std.specs.Prelude.{◌≡◌, Bool, true, false, List, ℕ, zero, suc, ◌+◌, ◌^◌, ◌≤◌, length, set, replicate}
use Rattle.numbers.specs.Lists.{at}
use Rattle.bounds.specs.Weights.{apart}
use Rattle.exact.specs.Factors.{total, end_hour, duration}
use Rattle.marks.specs.Marks.{passed}
use Rattle.factors.specs.Units.{start_of, end_of}
use Rattle.parking.specs.declared.cells.Moment.{Moment}
use Rattle.parking.specs.declared.cells.Moment.TheVariants.{Start, End}

-- what is asked of the counts of the 576 cells: some parking is counted, and at most a million
pub record CellsInRange (cells : List ℕ) : Type 0 where
  pub length-is : length cells ≡ 576
  pub total-least : 1 ≤ total cells
  pub total-most : total cells ≤ 10 ^ 6

-- the mark at which a cell's parking ends, or starts
abbrev pub mark_of : Bool → ℕ → ℕ
mark_of true = end_of
mark_of false = start_of

-- whether a moment of a parking is its end
abbrev pub is_end : Moment → Bool
is_end Start = false
is_end End = true

-- how far from 14:00 that mark is, in half-hours: as far from it, marks have one temperature, so that a day has 25
abbrev pub apart_of : Bool → ℕ → ℕ
apart_of ends cell = apart (mark_of ends cell)

-- how much each of some places counts: the counts of the first n cells, each added to the place that the cell names
unfoldable pub tally : ℕ → (ℕ → ℕ) → List ℕ → ℕ → List ℕ
tally places place cells zero = replicate places 0
tally places place cells (suc n) =
    set (tally places place cells n) (place n) (at (tally places place cells n) (place n) + at cells n)

-- what passed in a cell's parking, of values by mark: an end hour adds one value for each of its 24 half-hours
unfoldable pub passed_in : List ℕ → ℕ → ℕ
passed_in values cell = passed (at values) (end_hour cell) (duration cell)
