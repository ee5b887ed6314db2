-- `evaporation::evp_text` meets its contract: what holds of the text holds of its numbers.
-- Assumes nothing.
use Rattle.boundary.proofs.TextNumbers.{text-numbers}
use Rattle.evaporation.proofs.evp_text.Goals as goal

pub returns : goal.returns
returns c =
    text-numbers c.report_check-check.ensures c.report_text-written.ensures.call (rw c.length_of.ensures at c.from.ensures)
