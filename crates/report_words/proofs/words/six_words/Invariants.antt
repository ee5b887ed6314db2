-- `report_words::words::six_words` meets its contract: the first m words are in milligrams, the others as they were.
use Rattle.std.proofs.Common.{◌≡◌, ℕ, ◌<◌, ◌≤◌, length, slice_index}
use Rattle.report_words.specs.Years.{for_vehicles}
use Rattle.report_words.proofs.words.six_words.Given as goal

abbrev pub invariant-loop-m : goal.invariant-loop-m
invariant-loop-m l = (length l.six ≡ 6)
    × ((k : ℕ) → k < l.m → slice_index l.six k ≡ for_vehicles l.initial.six l.vehicles k)
    × ((k : ℕ) → l.m ≤ k → slice_index l.six k ≡ slice_index l.initial.six k)
