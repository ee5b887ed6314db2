-- `text::writer::Writer::text` meets its contract: after k turns the first k bytes are put.
-- Assumes nothing.
use mathlib.Core.Path.{sym}
use Rattle.std.proofs.lemmas.List.{take_more}
use Rattle.text.proofs.Putting.{◌and◌, put_same}
use Rattle.text.proofs.writer.Writer.text.Goals as goal

pub loop-byte-preserved : goal.loop-byte-preserved
loop-byte-preserved c =
    let l = c.loop-byte in
    put_same (l.invariant and c.byte.ensures) (sym (take_more c.args.text.now l.byte-index 0 c.loop-byte-test.true))
