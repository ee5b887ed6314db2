-- `Cell::from` of a low and a high meets its contract.
use Rattle.map_cells.proofs.Between.{between-empty, between-exact, between-band}
use lib.Ieee.{of_bits}
use Rattle.map_cells.proofs.kinds.CellFromLimits.from.Goals as goal

pub returns-then-high : goal.returns-then-high
unfolding of_bits
returns-then-high c = between-empty _ _ c.if-high.true

pub returns-then-low-high : goal.returns-then-low-high
unfolding of_bits
returns-then-low-high c = between-exact _ _ c.if-high.false c.if-low-high.true

pub returns-else-low-high : goal.returns-else-low-high
unfolding of_bits
returns-else-low-high c = between-band _ _ c.if-high.false c.if-low-high.false
