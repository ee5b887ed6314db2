-- `blocks::fill_blocks` meets its contract: the first i blocks are filled, and what lies beyond them is as it was.
use Rattle.std.specs.Fork.{ChangesAt}
use Rattle.blocks.proofs.Parts.{PartsMade}
use Rattle.blocks.proofs.fill_blocks.Given as goal

abbrev pub invariant-loop-i : goal.invariant-loop-i
invariant-loop-i g l = PartsMade (ChangesAt g.F.Fn l.fill) l.size l.i l.initial.words l.words
