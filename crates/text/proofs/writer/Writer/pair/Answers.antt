-- `text::writer::Writer::pair` meets its contract: each text and its number, and the line feed.
-- Assumes nothing.
use Rattle.text.specs.Lines.{pair_line}
use Rattle.text.proofs.Putting.{◌and◌}
use Rattle.text.proofs.writer.Writer.pair.Goals as goal

pub returns : goal.returns
unfolding pair_line
returns c = c.text.ensures and c.number.ensures and c.text-2.ensures and c.number-2.ensures and c.text-3.ensures
