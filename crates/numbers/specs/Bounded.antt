-- Need not be believed: a bound on the entries of a list. Definitions only.
use Rattle.std.specs.Prelude.{List, ℕ, ◌≤◌}
use Rattle.numbers.specs.Lists.{at}

-- every entry is at most a bound
pub record AllAtMost (bound : ℕ) (xs : List ℕ) : Type 0 where
  pub at_most : (k : ℕ) → at xs k ≤ bound
