-- What holds of a ledger's answer holds of its numbers.
-- Assumes nothing.
use mathlib.Core.List.{List}
use mathlib.Core.Path.{◌≡◌, ◌∙◌, ap}
use Prim.Native.Nat.{ℕ}
use Rattle.refusals.specs.Check.{Check}
use Rattle.ledger.specs.declared.Call.{Call}
use Rattle.ledger.specs.Ledger.{ChangeCall}
use Rattle.boundary.specs.declared.EvpCheck.{EvpCheck}
use Rattle.boundary.specs.Export.{check_numbers}
use Rattle.boundary.specs.Change.{ChangeNumbers}
use Rattle.boundary.proofs.Numbers.{check-is}

pub change-numbers : {s old after words : List ℕ} {call : Call} {c : Check} {r : EvpCheck} → ChangeCall s old call after words c → r ≡ check_numbers c
    → ChangeNumbers s old call after words r
change-numbers a e = record {
  answer-is = e ∙ ap check_numbers a.answer-is;
  sheet-is = rw a.answer-is at a.sheet-is;
  words_are = rw a.answer-is at a.words_are;
  says = rw (e ∙ check-is _) a.says;
}
