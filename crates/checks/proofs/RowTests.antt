-- The tests of a row, as the code makes them.
-- Assumes nothing.
use Rattle.std.proofs.Common.{Bool, true, false, not, is_some, Option, Some, None, ◌≡◌, refl}
use Rattle.exact.specs.declared.Fitted.{Fitted}
use Rattle.sheet.specs.Sheet.{is_absent}

-- a class and technology that are fitted with nothing are absent
pub none_absent : (e : Option Fitted) (b : Bool) → is_some e ≡ not b → b ≡ is_absent e
unfolding is_absent
none_absent None true h = refl
none_absent None false h = cc
none_absent (Some f) true h = cc
none_absent (Some f) false h = refl
