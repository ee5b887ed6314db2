-- What was read and written: the facts that are shut, for the functions that read and write.
-- Assumes nothing.
use Rattle.std.proofs.Common.{ℕ, Bool, List, Ok, Err}
use Rattle.std.specs.Prelude.{Result, OnErr}
use Rattle.program.specs.Reads.{Unread, missed}
use Rattle.program.specs.Writes.{wrote, stopped, Writes}

-- after a read of source i that failed
pub unread_any : {T E : Type 0} (i : ℕ) (r : Result T E) → OnErr r (Unread i)
unread_any i (Ok x) = tt
unread_any i (Err e) = missed i

-- after a write that took all of a text, or not
pub written : (stream : ℕ) (text : List ℕ) (all : Bool) → Writes stream text all
written stream text all = record { whole = λ e. wrote stream text; part = λ e. stopped stream text }
