-- `program::write_text` meets its contract: each write that takes some adds to the front that was taken.
use Rattle.std.proofs.Common.{subst, arith, rules}
use Rattle.std.specs.Io.KnownBytes.{Appends}
use Rattle.std.proofs.KnownBytes.{Appends-trans}
use Rattle.program.proofs.Fronts.{front_more}
use Rattle.program.proofs.write_text.Goals as goal

pub loop-done-preserved : goal.loop-done-preserved
loop-done-preserved g c = record {
  within = search rules;
  taken = subst (Appends _ _) (front_more c.loop-done.done c.in-Ok.n c.args.text.now (omega (arith, c.in-Ok.ensures.bound)))
      (Appends-trans _ _ _ _ _ c.loop-done.invariant.taken c.in-Ok.ensures.bytes);
}
