-- `evaporation::map::evp_cells_of_row` meets its contract.
use mathlib.Core.Path.{ap, ◌∙◌}
use Rattle.boundary.specs.Cells.{row_numbers}
use Rattle.boundary.proofs.CellNumbers.{row-numbers-kept}
use Rattle.evaporation.proofs.map.evp_cells_of_row.Goals as goal

pub returns : goal.returns
returns c = row-numbers-kept _ _ (c.from.ensures ∙ ap row_numbers c.handed_row.ensures)
