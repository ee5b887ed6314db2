-- `row_factors::season::day_of` meets its contract: each list is that of its definition.
use Rattle.std.proofs.Common.{◌≡◌, ◌∙◌, ap, ℕ, ◌<◌}
use Rattle.numbers.specs.Lists.{at}
use Rattle.numbers.proofs.Lists.{get_d-tab}
use Rattle.bounds.specs.Ahead.{ahead}
use Rattle.sheet.specs.Range.{mark_warmth}
use Rattle.breakthrough.specs.Lines.{line_of_warmth}
use Rattle.row_factors.proofs.season.day_of.Goals as goal

pub returns : goal.returns
returns c =
    let season = c.args.checked.season in
    let m = c.requires in
    let warmths = c.args.values.now.warmths.by_distance in
    let warmth : (d : ℕ) → d < 25 → at warmths d ≡ mark_warmth season (ahead d)
    = (λ d h. rw m.warmths-are (get_d-tab (λ (d : ℕ). mark_warmth season (ahead d)) 25 d h)) in
    record {
      season-in = c.args.checked.in_range;
      large_is = λ d h. c.lines.ensures d h ∙ ap (line_of_warmth season.vp 1) (warmth d h);
      medium-is = λ d h. c.lines-2.ensures d h ∙ ap (line_of_warmth season.vp 2) (warmth d h);
      small_is = λ d h. c.lines-3.ensures d h ∙ ap (line_of_warmth season.vp 4) (warmth d h);
      raises-are = m.raises-are;
    }
