-- `report_sums::renewal::year_of` meets its contract: the figures are those of the first j seasons.
-- Assumes nothing.
use Rattle.std.proofs.Common.{◌≡◌}
use Rattle.numbers.specs.Lists.{tab}
use Rattle.report_sums.specs.RowYear.{row_year}
use Rattle.report_sums.proofs.renewal.year_of.Given as goal

abbrev pub invariant-loop-j : goal.invariant-loop-j
invariant-loop-j l = l.year ≡ tab (row_year l.sheet.sheet.bytes.now l.i l.j) 6
