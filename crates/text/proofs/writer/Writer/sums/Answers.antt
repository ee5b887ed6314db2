-- `text::writer::Writer::sums` meets its contract: the five lines one behind another.
-- Assumes nothing.
use Rattle.text.specs.Lines.{sum_lines}
use Rattle.text.proofs.Putting.{◌and◌}
use Rattle.text.proofs.writer.Writer.sums.Goals as goal

pub returns : goal.returns
unfolding sum_lines
returns c = c.line.ensures and c.line-2.ensures and c.line-3.ensures and c.line-4.ensures and c.line-5.ensures
