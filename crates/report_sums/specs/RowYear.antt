-- Need not be believed: one row's figures on the way to its words, for `requires` and proofs.
use Rattle.std.specs.Prelude.{ℕ, List}
use Rattle.numbers.specs.Lists.{sum}
use Rattle.report_words.specs.Years.{season_figure}

-- figure m of row i over the first n seasons, of one vehicle
abbrev pub row_year : List ℕ → ℕ → ℕ → ℕ → ℕ
row_year s i n m = sum (season_figure s i m) n
