-- No minus zero is given back.
use Rattle.std.proofs.Common.{Ok, ◌≡◌, ℕ, ◌+◌, ◌≤◌, Bool, true, false, cond, eqb, arith}
use lib.Ieee.{Float, nan, inf, fin}
use lib.Ieee.Exact.{HasValue}
use Rattle.map_cells.specs.declared.Cell.{Cell}
use Rattle.map_cells.specs.declared.Cell.TheVariants.{Empty, Exact, Band}
use Rattle.map_cells.specs.Doubles.{mass_limit, double}
use Rattle.map_cells.specs.Cells.{cell_of}
use Rattle.map_cells.specs.Sums.{cell_sum}
use Rattle.map_cells.specs.Values.{Plus, NoMinus}
use Rattle.map_cells.proofs.WholeDoubles.{double-value}
use Rattle.map_cells.proofs.GivenSum.{given-sum}

double-plus : (n : ℕ) → n ≤ mass_limit → Plus (double n)
unfolding Plus
double-plus n h = go (double n) (double-value n h)
  where
    go : (x : Float) → HasValue x false n 1 → Plus x
    go nan v = elim v [ ]
    go (inf _) v = elim v [ ]
    go (fin s m e) v = v.0

pub cell-no-minus : (low high : ℕ) → low ≤ high → high ≤ mass_limit → NoMinus (cell_of low high)
unfolding cell_of NoMinus
cell-no-minus low high o h = go (eqb high 0) (eqb low high)
  where
    l : low ≤ mass_limit
    l = omega arith

    go : (s t : Bool) → NoMinus (cond s Empty (cond t (Exact (double low)) (Band (double low) (double high))))
    go true t = tt
    go false true = double-plus low l
    go false false = (double-plus low l, double-plus high h)

pub sum-no-minus : (a b c : Cell) → cell_sum a b ≡ Ok c → NoMinus c
sum-no-minus a b c e =
    let g = given-sum a b c e in
    rw g.cell-is at (cell-no-minus (g.low + g.low') (g.high + g.high') g.order g.room)
