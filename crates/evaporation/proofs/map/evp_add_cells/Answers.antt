-- `evaporation::map::evp_add_cells` meets its contract.
use mathlib.Core.Path.{ap, ◌∙◌}
use Rattle.boundary.specs.Cells.{sum_numbers}
use Rattle.boundary.proofs.CellNumbers.{sum-numbers-kept}
use Rattle.evaporation.proofs.map.evp_add_cells.Goals as goal

pub returns : goal.returns
returns c = sum-numbers-kept _ _ (c.from.ensures ∙ ap sum_numbers c.handed_sum.ensures)
