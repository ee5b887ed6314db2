-- `map_cells::doubles::add_three` meets its contract.
use Rattle.std.proofs.Common.{arith}
use Rattle.map_cells.proofs.WholeDoubles.{add-exact}
use Rattle.map_cells.proofs.doubles.add_three.Goals as goal

pub returns : goal.returns
returns c = rw (c.add_whole-two.ensures, c.from.ensures) (add-exact _ _ (omega arith) (omega arith))
