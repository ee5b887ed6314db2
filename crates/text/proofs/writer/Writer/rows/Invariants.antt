-- `text::writer::Writer::rows` meets its contract: after i turns the lines of the first i rows are put.
-- Assumes nothing.
use Rattle.text.specs.Lines.{row_lines}
use Rattle.text.specs.Put.{Put}
use Rattle.text.proofs.writer.Writer.rows.Given as goal

abbrev pub invariant-loop-i : goal.invariant-loop-i
invariant-loop-i l = Put l.initial.self (row_lines l.words l.i) l.self
