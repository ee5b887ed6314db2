-- `report_sums::write_sums` meets its contract: the parts of the buffer, one after another.
use Rattle.std.proofs.Common.{List, ℕ, drop, ◌∙◌, ap}
use Rattle.std.proofs.lemmas.List.{take_rest}
use Rattle.numbers.specs.Lists.{at}
use Rattle.report_sums.proofs.SumParts.{resummed-parts}
use Rattle.report_sums.proofs.write_sums.Goals as goal

pub returns : goal.returns
returns c =
    let cut = c.split_at_mut-rows.ensures in
    let count = c.rows.ensures.0 in
    let totals = rw (take_rest c.subtotals.new.sums 18) at c.grand_total.ensures in
    resummed-parts c.args.sheet.bytes.now c.args.words.now c.requires (rw count at cut.front) c.subtotals.ensures
    (c.split_at_mut-categories.ensures.back ∙ ap (λ (w : List ℕ). drop 24 w) (rw count at cut.back))
    (ap (λ (t : List ℕ). at t 0) totals) (ap (λ (t : List ℕ). at t 1) totals)
