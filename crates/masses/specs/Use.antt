-- Need not be believed: how large the numbers of a row's use can be.
use Rattle.std.specs.Prelude.{◌≤◌}
use Rattle.exact.specs.declared.Row.{Row}
use Rattle.sheet.specs.Limits.{percent_limit, trips_limit}

-- what a row's shares and trips are at most
pub record UseInRange (row : Row) : Type 0 where
  pub carburettor-most : row.carburettor ≤ percent_limit
  pub hot-most : row.hot ≤ percent_limit
  pub trips-most : row.trips ≤ trips_limit
