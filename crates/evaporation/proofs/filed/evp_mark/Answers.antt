-- `evaporation::filed::evp_mark` meets its contract: the numbers are those of the verdict.
use mathlib.Core.Path.{ap, ◌∙◌}
use Rattle.boundary.specs.MarkExport.{verdict_numbers}
use Rattle.boundary.proofs.MarkNumbers.{mark-numbers}
use Rattle.evaporation.proofs.filed.evp_mark.Goals as goal

pub returns : goal.returns
returns c = mark-numbers _ _ _ (c.from.ensures ∙ ap verdict_numbers c.mark_in.ensures)
