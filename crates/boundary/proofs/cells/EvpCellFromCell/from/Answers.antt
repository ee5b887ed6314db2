-- `EvpCell::from` of a cell meets its contract.
use lib.Ieee.{of_bits}
use mathlib.Core.Path.{sym, ap}
use Rattle.boundary.specs.Cells.{cell_numbers}
use Rattle.boundary.proofs.cells.EvpCellFromCell.from.Goals as goal

pub returns-in-Empty : goal.returns-in-Empty
unfolding of_bits cell_numbers
returns-in-Empty c = sym (ap cell_numbers c.in-Empty.is)

pub returns-in-Exact : goal.returns-in-Exact
unfolding cell_numbers
returns-in-Exact c = sym (ap cell_numbers c.in-Exact.is)

pub returns-in-Band : goal.returns-in-Band
unfolding cell_numbers
returns-in-Band c = sym (ap cell_numbers c.in-Band.is)
