-- `EvpText::from` of a check and a length meets its contract.
use Rattle.std.proofs.Common.{◌∙◌}
use Rattle.boundary.specs.TextExport.{text_numbers}
use Rattle.boundary.proofs.Numbers.{check-is}
use Rattle.boundary.proofs.answers.EvpTextFromTuple2CheckUsize.from.Goals as goal

pub returns : goal.returns
unfolding text_numbers
returns c = rw (c.from-told.ensures ∙ check-is _)
