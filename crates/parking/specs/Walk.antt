-- Request Two: the sums over the parkings, "one end hour after another", with the rise since each mark carried along. Definitions only.
use Rattle.std.specs.Prelude.{List, [], ◌∷◌, ◌++◌, ℕ, zero, suc, ◌+◌}
use Rattle.numbers.specs.Lists.{at}
use Rattle.exact.specs.Day.{start_mark}

-- "Each end hour adds at most 24 steps, not the 300 of its parkings."
abbrev pub steps_most : ℕ
steps_most = 24

-- Of values by mark, such as the rise from each mark to the next.
module _ (values : List ℕ) where
  -- n steps further back, from d half-hours before an end hour. A step adds the value of the mark at which it starts to what is carried
  -- along, and so gives what passed in the parking of d + 1 half-hours.
  unfoldable pub steps_back : ℕ → ℕ → ℕ → ℕ → List ℕ
  steps_back hour d carried zero = []
  steps_back hour d carried (suc n) =
      let passed = carried + at values (start_mark hour (suc d)) in
      passed ∷ steps_back hour (suc d) passed n

  -- the first end hours: one step for each of its 24 durations, and nothing is carried to it
  unfoldable pub walked : ℕ → List ℕ
  walked zero = []
  walked (suc hour) = walked hour ++ steps_back (suc hour) 0 0 24
