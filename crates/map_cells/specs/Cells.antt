-- The three kinds of cell: "A cell is empty, one exact mass, or a low and a high mass, each a double equal to its whole number".
-- Definitions only.
use Rattle.std.specs.Prelude.{Option, Some, None, ℕ, cond, ◌==◌, nat_lt}
use Rattle.map_cells.specs.declared.Cell.{Cell}
use Rattle.map_cells.specs.declared.Cell.TheVariants.{Empty, Exact, Band}
use Rattle.map_cells.specs.Doubles.{double, whole_of}

-- "empty where the high is 0, one mass where low and high are equal"
unfoldable pub cell_of : ℕ → ℕ → Cell
cell_of low high = cond (high == 0) Empty (cond (low == high) (Exact (double low)) (Band (double low) (double high)))

-- "an exact 0 .. is none"
unfoldable pub exact_masses : Option ℕ → Option (ℕ × ℕ)
exact_masses (Some n) = cond (nat_lt 0 n) (Some (n, n)) None
exact_masses None = None

-- "an equal low and high .. is none", nor is "a low above its high"
unfoldable pub band_masses : Option ℕ → Option ℕ → Option (ℕ × ℕ)
band_masses (Some low) (Some high) = cond (nat_lt low high) (Some (low, high)) None
band_masses (Some low) None = None
band_masses None high = None

-- the low and the high of a cell handed in, or that it "is none of these"
unfoldable pub masses_of : Cell → Option (ℕ × ℕ)
masses_of Empty = Some (0, 0)
masses_of (Exact m) = exact_masses (whole_of m)
masses_of (Band low high) = band_masses (whole_of low) (whole_of high)
