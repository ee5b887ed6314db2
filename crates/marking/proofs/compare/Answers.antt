-- `marking::compare` meets its contract: the tests of the definition in its order.
-- Four answers say what `from` is, each in a line: their contexts differ, and a lemma would take the same two facts.
-- Assumes nothing.
use mathlib.Core.Path.{◌∙◌}
use native.Mathlib.Omega.{arith}
use borrow.Author.Tests.{lt-ltb, le-ltb}
use Rattle.marking.specs.Verdicts.{pick, compared}
use Rattle.marking.proofs.Cuts.{rounded-up}
use Rattle.marking.proofs.compare.Goals as goal

pub returns-then-from-low : goal.returns-then-from-low
unfolding compared pick
returns-then-from-low c =
    let from = c.div_ceil-from.ensures ∙ rounded-up c.saturating_sub-least.result c.args.scale (omega arith) in
    rw (← c.saturating_sub-least.ensures, ← from, c.if-from-low.true)

pub returns-then-to-low : goal.returns-then-to-low
unfolding compared pick
returns-then-to-low c =
    let from = c.div_ceil-from.ensures ∙ rounded-up c.saturating_sub-least.result c.args.scale (omega arith) in
    let up = c.div_ceil.ensures ∙ rounded-up _ c.args.scale (omega arith) in
    rw (
      c.saturating_sub.ensures,
      ← c.saturating_sub-least.ensures,
      ← from,
      c.if-from-low.false,
      lt-ltb _ _ c.if-to-low.true,
      up,
    )

pub returns-then-high-from : goal.returns-then-high-from
unfolding compared pick
returns-then-high-from c =
    let from = c.div_ceil-from.ensures ∙ rounded-up c.saturating_sub-least.result c.args.scale (omega arith) in
    rw (
      c.saturating_sub-then-high-from.ensures,
      ← c.saturating_sub-least.ensures,
      ← from,
      c.if-from-low.false,
      le-ltb _ _ c.if-to-low.false,
      lt-ltb _ _ c.if-high-from.true,
    )

pub returns : goal.returns
unfolding compared pick
returns c =
    let from = c.div_ceil-from.ensures ∙ rounded-up c.saturating_sub-least.result c.args.scale (omega arith) in
    rw (← c.saturating_sub-least.ensures, ← from, c.if-from-low.false, le-ltb _ _ c.if-to-low.false, le-ltb _ _ c.if-high-from.false)
