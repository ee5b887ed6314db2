-- `pooling_calls::check::region_check` meets its contract: after the mark the head is there.
-- Assumes nothing.
use mathlib.Core.Path.{sym, ◌∙◌}
use Rattle.sheet.proofs.Conditions.{mark-judged}
use Rattle.pooling_calls.proofs.check.region_check.Goals as goal

pub version_of-requires : goal.version_of-requires
version_of-requires c = ((mark-judged _).passes (sym c.mark_check.ensures ∙ c.in_ok-mark_check.was)).0
