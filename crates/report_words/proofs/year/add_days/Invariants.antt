-- `report_words::year::add_days` meets its contract: the first m of the six words have their figures added, the others are as they were.
use Rattle.std.proofs.Common.{◌≡◌, ℕ, ◌<◌, ◌≤◌, length, slice_index}
use Rattle.report_words.specs.Years.{days_added}
use Rattle.report_words.proofs.year.add_days.Given as goal

abbrev pub invariant-loop-m : goal.invariant-loop-m
invariant-loop-m l = (length l.six ≡ 6)
    × ((k : ℕ) → k < l.m → slice_index l.six k ≡ days_added l.initial.six l.days l.figures k)
    × ((k : ℕ) → l.m ≤ k → slice_index l.six k ≡ slice_index l.initial.six k)
