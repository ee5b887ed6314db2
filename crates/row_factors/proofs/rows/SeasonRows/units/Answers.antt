-- `row_factors::rows::SeasonRows::units` meets its contract: the class decides which factors they are.
use Rattle.std.proofs.Common.{◌≡◌, ◌∙◌}
use Rattle.row_factors.specs.Seven.{seven_units}
use Rattle.row_factors.proofs.SevenFactors.{seven-right, seven-fits}
use Rattle.row_factors.proofs.Range.{units-in-range}
use Rattle.row_factors.proofs.rows.SeasonRows.units.Goals as goal

pub factors-requires : goal.factors-requires
factors-requires c =
    let rows = c.args.self in
    seven-fits rows.ready.day-ready.season-in c.requires.row_in _ rows.ready.means-are c.of-kind.ensures c.escapes-escapes.ensures

made : (c : goal.After-factors) → c.factors.result ≡ seven_units c.args.self.at.now.season c.args.row.row c.args.self.grid.now.cells.counts
made c =
    let rows = c.args.self in
    c.factors.ensures ∙ seven-right rows.at.now.season c.args.row.row _ rows.ready.means-are c.of-kind.ensures c.escapes-escapes.ensures

pub invariant_of-result : goal.invariant_of-result
invariant_of-result c =
    record { in_range = rw (made c) (units-in-range c.args.self.ready.day-ready.season-in c.requires.row_in _) }

pub returns : goal.returns
returns c = made c.before
