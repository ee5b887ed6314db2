-- `text::writer::Writer::fields` meets its contract: after k turns the fields of the first k words are put.
-- Assumes nothing.
use mathlib.Core.Path.{sym}
use Rattle.text.proofs.LineLaws.{fields-more}
use Rattle.text.proofs.Putting.{◌and◌, put_same}
use Rattle.text.proofs.writer.Writer.fields.Goals as goal

pub loop-word-preserved : goal.loop-word-preserved
loop-word-preserved c =
    let l = c.loop-word in
    put_same (l.invariant and c.field.ensures) (sym (fields-more c.args.words.now l.word-index c.loop-word-test.true))
