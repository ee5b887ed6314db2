-- `explanation::head::mark_finding` meets its contract: under 8 bytes the line of number 1 is found.
-- Assumes nothing.
use mathlib.Core.Path.{refl, sym}
use borrow.Author.Tests.{lt-ltb}
use Rattle.sheet.specs.Sheet.{outside}
use Rattle.findings.specs.Lines.{chosen, line}
use Rattle.findings.specs.Table.{mark_finding}
use Rattle.findings.proofs.Steps.{stops}
use Rattle.explanation.proofs.head.mark_finding.Goals as goal

pub returns-then-n-lt-HEAD : goal.returns-then-n-lt-HEAD
unfolding mark_finding line chosen outside
returns-then-n-lt-HEAD c =
    rw (c.judge_sheet.ensures, c.between-whole.ensures, lt-ltb _ _ c.if-n-lt-HEAD.true) (sym (stops _ _ _ refl))
