-- `thresholds::Below::digit` meets its contract, in both branches.
use mathlib.Core.Path.{refl, ◌∙◌, sym}
use native.Mathlib.Omega.{arith}
use Rattle.thresholds.specs.Thresholds.{digit}
use Rattle.thresholds.proofs.Below.digit.Goals as goal

pub returns-then-within : goal.returns-then-within
unfolding digit
returns-then-within c = (rw (sym c.within.ensures ∙ c.if-within.true) refl, omega arith)

pub returns-else-within : goal.returns-else-within
unfolding digit
returns-else-within c = (rw (sym c.within.ensures ∙ c.if-within.false) refl, omega arith)
