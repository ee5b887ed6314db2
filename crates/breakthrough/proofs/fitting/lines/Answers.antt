-- `breakthrough::fitting::lines` meets its contract: at each distance stands its line.
use Rattle.std.proofs.Common.{◌≡◌, ℕ, rules}
use Rattle.numbers.specs.Lists.{at}
use Rattle.numbers.proofs.Made.{made_each}
use Rattle.starting_loads.specs.declared.loads.Line.{Line}
use Rattle.breakthrough.specs.Lines.{line_of_warmth, no_line}
use Rattle.breakthrough.proofs.fitting.lines.Goals as goal

pub returns : goal.returns
returns c =
    made_each _ _ (λ (d : ℕ) (line : Line). line ≡ line_of_warmth c.args.vp c.args.times (at c.args.warmths.now.by_distance d))
    (λ i y q w. search rules) c.from_fn.ensures.items no_line
