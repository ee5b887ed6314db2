-- `text::writer::Writer::text` meets its contract: after k turns the first k bytes are put.
-- Assumes nothing.
use lib.ListN.{take}
use Rattle.text.specs.Put.{Put}
use Rattle.text.proofs.writer.Writer.text.Given as goal

abbrev pub invariant-loop-byte : goal.invariant-loop-byte
invariant-loop-byte l = Put l.initial.self (take l.byte-index l.text) l.self
