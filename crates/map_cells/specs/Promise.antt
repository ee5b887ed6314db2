-- What is promised of the sum of two cells, or of its refusal. Definitions only.
use Rattle.std.specs.Prelude.{Some, Ok, ◌≡◌, ℕ, ◌+◌, ◌≤◌, ◌⊎◌}
use Rattle.numbers.specs.Fraction.{Fraction, ◌+ᶠ◌}
use Rattle.map_cells.specs.declared.Cell.{Cell}
use Rattle.refusals.specs.Check.{number_of, place_of}
use Rattle.map_cells.specs.Doubles.{mass_limit}
use Rattle.map_cells.specs.Cells.{cell_of, masses_of}
use Rattle.map_cells.specs.Sums.{CellAnswer}
use Rattle.map_cells.specs.Values.{InCell, NoMinus}

-- both cells handed in are cells, and their highs together are at most 2⁵³
pub record SumIn (a b : Cell) : Type 0 where
  pub low : ℕ
  pub high : ℕ
  pub low' : ℕ
  pub high' : ℕ
  pub first : masses_of a ≡ Some (low, high)
  pub second : masses_of b ≡ Some (low', high')
  pub room : high + high' ≤ mass_limit

-- what an answer's number means, "place 0": "27 .. a cell handed in that is none of these .. or a .. sum above 2⁵³"
pub record SumSays (a b : Cell) (number place : ℕ) : Type 0 where
  pub place_is : place ≡ 0
  pub meaning : ((number ≡ 0) × SumIn a b) ⊎ ((number ≡ 27) × ¬ (SumIn a b))

-- a cell that is given
pub record SumCell (a b c : Cell) : Type 0 where
  -- "Sums of cells are exact": lows and highs are added as whole numbers
  pub exact : (s : SumIn a b) → c ≡ cell_of (s.low + s.low') (s.high + s.high')
  -- "the sum of a cell's exact shares lies in that cell, and is 0 where the cell is empty": for any exact masses in the two cells
  pub holds : (x y : Fraction) → InCell a x → InCell b y → InCell c (x +ᶠ y)
  -- "A minus zero .. none is given back."
  pub no_minus : NoMinus c

pub record SumPromise (a b : Cell) (r : CellAnswer) : Type 0 where
  pub says : SumSays a b (number_of r) (place_of r)
  pub cell : (c : Cell) → r ≡ Ok c → SumCell a b c
