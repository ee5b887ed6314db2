-- `sheet_factors::grid_sheet::cells_of` meets its contract: an accepted sheet has a grid or both lists of counts, and their sums are within
-- limits.
use Rattle.sheet_factors.proofs.AcceptedRange.{grid-read, lists-in-range, products-read}
use Rattle.sheet_factors.proofs.grid_sheet.cells_of.Goals as goal

pub products-requires : goal.products-requires
products-requires c = lists-in-range _ c.args.sheet.passed c.has_grid.ensures c.if-has_grid.false c.duration_counts.ensures c.hour_counts.ensures

pub returns-then-has_grid : goal.returns-then-has_grid
returns-then-has_grid c = grid-read _ c.args.sheet.passed c.has_grid.ensures c.if-has_grid.true c.grid_counts.ensures

pub returns-else-has_grid : goal.returns-else-has_grid
returns-else-has_grid c =
    products-read _ c.args.sheet.passed c.has_grid.ensures c.if-has_grid.false c.duration_counts.ensures c.hour_counts.ensures c.products.ensures
