-- What the buffer holds after the report call: the new words first, and beyond them what stood there.
use Rattle.std.proofs.Common.{Ok, Err}
use mathlib.Core.List.{List}
use mathlib.Core.Path.{◌≡◌, refl, ◌∙◌}
use Prim.Native.Nat.{ℕ, ◌≤◌, ◌<◌}
use native.Mathlib.Nat.{le_dest}
use native.Mathlib.Omega.{arith}
use lib.ListN.{length, get_or, drop, length-append, length-drop, get_or-append}
use lib.Seq.{get_or-append-add, get_or-drop}
use Rattle.refusals.specs.Check.{Check, Pass}
use Rattle.inventory.specs.ReportCall.{written}

-- the first words of an accepted call are the report's
pub written-first : (new old : List ℕ) (k : ℕ) → k < length new → get_or (written Pass new old) k 0 ≡ get_or new k 0
unfolding written
written-first new old k h = get_or-append new (drop (length new) old) 0 k h

-- "The buffer keeps its words, as do words beyond an accepted report."
pub written-beyond : (c : Check) (new old : List ℕ) (k : ℕ) → length new ≤ k → get_or (written c new old) k 0 ≡ get_or old k 0
unfolding written
written-beyond (Ok _) new old k h =
    let (d, e) = le_dest h in
    rw (← e) (get_or-append-add new (drop (length new) old) d 0 ∙ get_or-drop (length new) old d 0)
written-beyond (Err refusal) new old k h = refl

-- the buffer keeps its length where the report has room
pub written-length : (c : Check) (new old : List ℕ) → length new ≤ length old → length (written c new old) ≡ length old
unfolding written
written-length (Ok _) new old h = simp (length-append, length-drop) (omega arith)
written-length (Err refusal) new old h = refl
