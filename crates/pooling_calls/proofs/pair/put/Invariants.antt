-- `pooling_calls::pair::put` meets its contract: what is left to be put makes of the buffer what all of it makes of the buffer before.
use Rattle.std.proofs.Common.{◌≡◌, ◌+◌, drop}
use lib.Seq.{sets}
use Rattle.pooling_calls.proofs.pair.put.Given as goal

abbrev pub invariant-loop-i : goal.invariant-loop-i
invariant-loop-i l = sets l.out (l.place + l.i) (drop l.i l.bytes) ≡ sets l.initial.out l.place l.bytes
