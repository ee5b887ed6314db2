-- `program::sources::read` meets its contract: each read that gives some adds to the front of the buffer, and that front is what was read.
use Rattle.std.proofs.Common.{subst, sym, arith, rules}
use Rattle.std.specs.Io.KnownBytes.{Consumes}
use Rattle.std.proofs.KnownBytes.{Consumes-trans}
use Rattle.program.specs.Reads.{taken}
use Rattle.program.proofs.Taking.{unread_any}
use Rattle.program.proofs.Fronts.{front_filled}
use Rattle.program.proofs.sources.read.Goals as goal

pub loop-done-preserved : goal.loop-done-preserved
loop-done-preserved g c = record {
  within = search rules;
  taken =
      let fits = c.in_ok-n.ensures.bound.0 in
      subst (Consumes _ _) (sym (front_filled c.loop-done.done c.in_ok-n.n c.loop-done.buffer c.read.new.buf _ (omega arith) fits))
      (Consumes-trans _ _ _ _ _ c.loop-done.invariant.taken c.in_ok-n.ensures.bytes.0);
}

pub invariant_of-result : goal.invariant_of-result
invariant_of-result g c = record { is_taken = taken _ _ }

-- the read gave an error
pub returns-in_err-n-clause-unread : goal.returns-in_err-n-clause-unread
returns-in_err-n-clause-unread g c = unread_any _ _
