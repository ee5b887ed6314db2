-- `fields::classes::canister_of` meets its contract: a code that means nothing stands for no canister.
-- Assumes nothing.
use native.Mathlib.Omega.{arith}
use Rattle.fields.proofs.ClassTable.{no-canister}
use Rattle.fields.proofs.classes.canister_of.Goals as goal

pub returns-in_default : goal.returns-in_default
returns-in_default c = no-canister _ _ (λ e. omega arith) (λ e. omega arith) (λ e. omega arith) (λ e. omega arith)
