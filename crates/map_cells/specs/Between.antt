-- Need not be believed: the cell of two doubles, as the code makes it. That it is `cell_of` of their whole numbers is the
-- law `between_is`.
use Rattle.std.specs.Prelude.{◌≡◌, ℕ, ◌≤◌, false, cond, pos, Float}
use Rattle.std.specs.Float.{fin}
use Rattle.std.specs.Float.Ieee.{eq}
use Rattle.map_cells.specs.declared.Cell.{Cell}
use Rattle.map_cells.specs.declared.Cell.TheVariants.{Empty, Exact, Band}
use Rattle.map_cells.specs.Doubles.{mass_limit, double}

-- two doubles that are a low and a high mass, in this order
pub record LowAndHigh (low high : Float) : Type 0 where
  pub least : ℕ
  pub most : ℕ
  pub low-is : low ≡ double least
  pub high_is : high ≡ double most
  pub order : least ≤ most
  pub room : most ≤ mass_limit

-- 0 is `fin false 0 (pos 0)`
unfoldable pub cell_between : Float → Float → Cell
cell_between low high = cond (eq high (fin false 0 (pos 0))) Empty (cond (eq low high) (Exact low) (Band low high))
