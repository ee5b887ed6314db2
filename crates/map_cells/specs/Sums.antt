-- The sum of cells. Definitions only.
use Rattle.std.specs.Prelude.{Option, Some, None, Ok, Err, ℕ, ◌+◌, cond, nat_le}
use Rattle.refusals.specs.declared.Refusal.{Refusal}
use Rattle.refusals.specs.declared.Rule.TheVariants as rule
use Rattle.refusals.specs.Check.{Answer}
use Rattle.map_cells.specs.declared.Cell.{Cell}
use Rattle.map_cells.specs.Doubles.{mass_limit}
use Rattle.map_cells.specs.Cells.{cell_of, masses_of}

-- what the sum of two cells answers: a cell, or a refusal
abbrev pub CellAnswer : Type 0
CellAnswer = Answer Cell

-- "27 .. a cell handed in that is none of these .. or a word, cell or sum above 2⁵³", place 0
abbrev pub cell_refusal : Refusal
cell_refusal = record { rule = rule.Cell; place = 0 }

-- "Sums of cells are exact under the same limit": lows and highs are added as whole numbers
unfoldable pub masses_sum : Option (ℕ × ℕ) → Option (ℕ × ℕ) → CellAnswer
masses_sum None b = Err cell_refusal
masses_sum (Some (low, high)) None = Err cell_refusal
masses_sum (Some (low, high)) (Some (low', high')) =
    cond (nat_le (high + high') mass_limit) (Ok (cell_of (low + low') (high + high'))) (Err cell_refusal)

-- the sum of two cells handed in
unfoldable pub cell_sum : Cell → Cell → CellAnswer
cell_sum a b = masses_sum (masses_of a) (masses_of b)

-- one cell more, added to what a sum answered: a refusal stays
unfoldable pub add_to : CellAnswer → Cell → CellAnswer
add_to (Ok a) b = cell_sum a b
add_to (Err refusal) b = Err refusal
