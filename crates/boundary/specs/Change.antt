-- What a program in another language gets of a call on a ledger, as `ChangeCall` says it of the answer in Rattle. Definitions only.
use Rattle.std.specs.Prelude.{List, ◌≡◌, ℕ, length}
use Rattle.sheet.specs.Demands.{Says}
use Rattle.ledger.specs.declared.Call.{Call}
use Rattle.ledger.specs.Ledger.{change_check, sheet_after, words_after, change_demands}
use Rattle.boundary.specs.declared.EvpCheck.{EvpCheck}
use Rattle.boundary.specs.Export.{check_numbers}

pub record ChangeNumbers (s old : List ℕ) (call : Call) (after words : List ℕ) (r : EvpCheck) : Type 0 where
  pub answer-is : r ≡ check_numbers (change_check s (length old) call)
  pub sheet-is : after ≡ sheet_after (change_check s (length old) call) s call
  pub words_are : words ≡ words_after (change_check s (length old) call) after call old
  pub says : Says (change_demands s (length old) call) r.number r.place
