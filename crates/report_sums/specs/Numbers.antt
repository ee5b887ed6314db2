-- Need not be believed: where a category stands among the subtotals, for the contracts of their sums. Definitions only.
use Rattle.std.specs.Prelude.{ℕ}
use Rattle.report_sums.specs.declared.Category.{Category}
use Rattle.report_sums.specs.declared.Category.TheVariants.{Cars, LightDuty, TwoWheelers, AllRows}

-- its number, from 0
unfoldable pub number : Category → ℕ
number Cars = 0
number LightDuty = 1
number TwoWheelers = 2
number AllRows = 3
