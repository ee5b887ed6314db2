-- `text::writer::Writer::line` meets its contract: the name, the words and the line feed.
-- Assumes nothing.
use Rattle.text.specs.Lines.{line}
use Rattle.text.proofs.Putting.{◌and◌}
use Rattle.text.proofs.writer.Writer.line.Goals as goal

pub returns : goal.returns
unfolding line
returns c = c.text.ensures and c.fields.ensures and c.text-2.ensures
