-- `bounds::power::square_root` meets its contract: the root of 0 is 0.
use mathlib.Core.Path.{sym}
use native.Mathlib.Omega.{arith}
use Rattle.bounds.proofs.Root.{root-square}
use Rattle.bounds.proofs.power.square_root.Goals as goal

pub returns-then-x-eq0 : goal.returns-then-x-eq0
returns-then-x-eq0 c = (rw c.if-x-eq0.true (sym (root-square 0)), omega arith)
