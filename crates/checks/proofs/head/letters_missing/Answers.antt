-- `checks::head::letters_missing` meets its contract: the first three bytes are compared with the letters.
-- Assumes nothing.
use native.Mathlib.Omega.{arith}
use Rattle.checks.proofs.Letters.{letters}
use Rattle.checks.proofs.head.letters_missing.Goals as goal

pub returns : goal.returns
returns c = letters _ (omega arith) c.starts_with.ensures.value
