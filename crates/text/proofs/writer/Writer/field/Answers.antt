-- `text::writer::Writer::field` meets its contract: a space, and the word.
-- Assumes nothing.
use Rattle.text.specs.Lines.{field}
use Rattle.text.proofs.Putting.{◌and◌}
use Rattle.text.proofs.writer.Writer.field.Goals as goal

pub returns : goal.returns
unfolding field
returns c = c.text.ensures and c.number.ensures
