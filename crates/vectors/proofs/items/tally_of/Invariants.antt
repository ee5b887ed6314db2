-- `vectors::items::tally_of` is safe and ends. The loop's invariant: the next record may be judged. The measure is what is left of the input.
use Rattle.std.proofs.Common.{length}
use denote.Param.Always.{always_mut}
use Rattle.vectors.proofs.items.tally_of.Given as goal

abbrev pub invariant-loop-record : goal.invariant-loop-record
invariant-loop-record g l = always_mut g.F.FnMut l.initial.judge → always_mut g.F.FnMut l.judge

abbrev pub decreases-loop-record : goal.decreases-loop-record
decreases-loop-record g l = length l.rest.bytes.now
