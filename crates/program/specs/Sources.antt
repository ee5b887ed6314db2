-- Need not be believed: how a program's read of a source ends.
use Rattle.std.specs.Prelude.{List, Option, Result, ◌≡◌, ℕ, IfOk, OnOk, OnErr}
use Rattle.std.specs.Io.KnownBytes.{Keeps}
use Rattle.program.specs.declared.input.Input.{Input}
use Rattle.program.specs.declared.input.NotRead.{NotRead}
use Rattle.program.specs.Reads.{Unread}

-- After a read of source i: what was read is of this source, and nothing was written to standard error; or it could not be read, which has
-- been said there.
pub record ReadsSource (i : ℕ) (answer : Result Input NotRead) (old new : Option (List ℕ)) : Type 0 where
  pub source : IfOk answer (λ input. input.source ≡ i)
  pub silent : OnOk answer (Keeps old new)
  pub unread : OnErr answer (Unread i)
