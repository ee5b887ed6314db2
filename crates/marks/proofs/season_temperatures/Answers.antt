-- `marks::season_temperatures` meets its contract: the lowest temperature, the span and the weights are those of the definition.
use mathlib.Core.Path.{◌≡◌}
use borrow.Author.Rules.{rules}
use Rattle.numbers.specs.Lists.{tab}
use Rattle.numbers.proofs.Lists.{tab-at-most}
use Rattle.bounds.proofs.Laws.{w-most}
use Rattle.sheet.specs.Range.{mark_warmth}
use Rattle.sheet.proofs.Temperature.{warmth-most}
use Rattle.marks.proofs.season_temperatures.Goals as goal

same : (c : goal.After-temperatures) → c.temperatures.result ≡ tab (mark_warmth c.args.checked.season) 48
unfolding mark_warmth
same c =
    rw (
      c.warmth-lowest.ensures,
      c.warmth.ensures,
      c.weights_table.ensures,
    ) at c.temperatures.ensures

pub returns : goal.returns
returns c =
    (same c, tab-at-most _ 48 (same c) (λ i l. warmth-most i c.args.checked.in_range))

pub temperatures-requires : goal.temperatures-requires
temperatures-requires c = (search rules, search rules, record { at_most = λ k. rw c.weights_table.ensures (w-most k) })
