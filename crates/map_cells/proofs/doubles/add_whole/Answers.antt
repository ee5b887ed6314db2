-- `map_cells::doubles::add_whole` meets its contract.
use Rattle.map_cells.proofs.WholeDoubles.{add-exact}
use Rattle.map_cells.proofs.doubles.add_whole.Goals as goal

pub returns : goal.returns
returns c = rw (c.from.ensures, c.from-2.ensures) (add-exact _ _ c.args.m.limit c.args.n.limit)
