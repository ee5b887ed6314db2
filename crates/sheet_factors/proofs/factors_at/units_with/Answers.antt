-- `sheet_factors::factors_at::units_with` meets its contract: the season and the row of an accepted sheet are in range.
use Rattle.std.proofs.Common.{◌∙◌}
use Rattle.sheet_factors.proofs.SeasonWork.{row-ready, alike}
use Rattle.sheet_factors.proofs.factors_at.units_with.Goals as goal

pub units-requires : goal.units-requires
units-requires c = row-ready c.season-prepared.ensures (λ some. (c.list_for-list.ensures some).ready) c.requires.1 c.requires.2

pub returns : goal.returns
returns c = c.units.ensures ∙ alike c.season-prepared.ensures.season-is c.requires.2 c.args.sheet.now.cells_are
