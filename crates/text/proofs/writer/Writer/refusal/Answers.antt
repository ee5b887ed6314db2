-- `text::writer::Writer::refusal` meets its contract: the words, the number and the place.
-- Assumes nothing.
use Rattle.text.specs.Lines.{refusal_line}
use Rattle.text.proofs.writer.Writer.refusal.Goals as goal

pub returns : goal.returns
unfolding refusal_line
returns c = rw (← c.number.ensures) c.pair.ensures
