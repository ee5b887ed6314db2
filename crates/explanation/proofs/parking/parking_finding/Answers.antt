-- `explanation::parking::parking_finding` meets its contract: the counts stand before the seasons.
-- Assumes nothing.
use mathlib.Core.Path.{sym, ◌∙◌}
use native.Mathlib.Omega.{arith}
use Rattle.sheet.proofs.Versions.{start-grid, start-lists, start_between}
use Rattle.explanation.proofs.parking.parking_finding.Goals as goal

pub has_grid-requires : goal.has_grid-requires
has_grid-requires c = omega (arith, start_between c.args.s.now)

pub counts_total-cells-requires : goal.counts_total-cells-requires
counts_total-cells-requires c = omega (arith, start-grid c.args.s.now (sym c.has_grid.ensures ∙ c.if-has_grid.true))

pub counts_total-durations-requires : goal.counts_total-durations-requires
counts_total-durations-requires c = omega (arith, start-lists c.args.s.now (sym c.has_grid.ensures ∙ c.if-has_grid.false))

pub counts_total-hours-requires : goal.counts_total-hours-requires
counts_total-hours-requires c = omega (arith, start-lists c.args.s.now (sym c.has_grid.ensures ∙ c.if-has_grid.false))
