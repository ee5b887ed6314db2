-- `text::writer::Writer::report` meets its contract: the head, the rows and the lines below them.
-- Assumes nothing.
use Prim.Native.Nat.{◌*◌}
use native.Mathlib.Omega.{arith}
use Rattle.text.specs.Lines.{report_lines, head_line}
use Rattle.text.proofs.LineLaws.{rows_in, sums-behind}
use Rattle.text.proofs.Putting.{◌and◌, put_same}
use Rattle.text.proofs.writer.Writer.report.Goals as goal

pub returns : goal.returns
unfolding report_lines head_line
returns c =
    let words = c.args.words.now in
    let parts = c.split_at.ensures in
    c.pair.ensures and
    put_same c.rows.ensures (rows_in words c.args.rows parts.front (omega (arith, c.requires))) and
    put_same c.sums.ensures (sums-behind words (6 * c.args.rows) parts.back)
