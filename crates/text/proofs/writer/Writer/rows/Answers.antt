-- `text::writer::Writer::rows` meets its contract: after i turns the lines of the first i rows are put.
-- Assumes nothing.
use native.Mathlib.Omega.{arith}
use Rattle.text.proofs.LineLaws.{row-behind}
use Rattle.text.proofs.Putting.{◌and◌, put_same}
use Rattle.text.proofs.writer.Writer.rows.Goals as goal

pub loop-i-preserved : goal.loop-i-preserved
loop-i-preserved c =
    let chunks = c.as_chunks.ensures in
    put_same (c.loop-i.invariant and c.row.ensures)
    (row-behind c.args.words.now _ chunks.front (omega (arith, c.loop-i-test.true, chunks.front_len)))
