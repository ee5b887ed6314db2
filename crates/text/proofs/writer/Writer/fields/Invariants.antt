-- `text::writer::Writer::fields` meets its contract: after k turns the fields of the first k words are put.
-- Assumes nothing.
use lib.ListN.{take}
use Rattle.text.specs.Lines.{fields}
use Rattle.text.specs.Put.{Put}
use Rattle.text.proofs.writer.Writer.fields.Given as goal

abbrev pub invariant-loop-word : goal.invariant-loop-word
invariant-loop-word l = Put l.initial.self (fields (take l.word-index l.words)) l.self
