-- What is promised of one factor: a band around the exact factor, and where the call refuses. Definitions only.
use Rattle.std.specs.Prelude.{List, ℕ, suc, zero, ◌+◌, ◌≤◌, ◌<◌, Ok, Err}
use Rattle.numbers.specs.Fraction.{◌≤ᶠ◌, ◌/10^◌}
use Rattle.exact.specs.Factors.{Factor, F1, F2, F3, F4, F5, F6, F7, factor}
use Rattle.refusals.specs.declared.Rule.TheVariants as rule
use Rattle.refusals.specs.Check.{Answer}
use Rattle.sheet.specs.Bytes.{seasons_of, rows_of, cells_of, season_at, row_at}
use Rattle.sheet.specs.Demands.{Demands, demand, ◌next◌, demands}
use Rattle.inventory.specs.declared.Band.{Band}

-- "one factor, 1 to 7"
unfoldable pub numbered : ℕ → Factor
numbered zero = F1
numbered (suc zero) = F1
numbered (suc (suc zero)) = F2
numbered (suc (suc (suc zero))) = F3
numbered (suc (suc (suc (suc zero)))) = F4
numbered (suc (suc (suc (suc (suc zero))))) = F5
numbered (suc (suc (suc (suc (suc (suc zero)))))) = F6
numbered (suc (suc (suc (suc (suc (suc (suc k))))))) = F7

-- "The factor call's low and high are at most 10 micrograms apart", around the exact factor for every n from 40 upward
pub record FactorBand (s : List ℕ) (season row k low high : ℕ) : Type 0 where
  pub above : (n : ℕ) → 40 ≤ n → low /10^ 6 ≤ᶠ factor n (cells_of s) (season_at s season) (row_at s row) (numbered k)
  pub below : (n : ℕ) → 40 ≤ n → factor n (cells_of s) (season_at s season) (row_at s row) (numbered k) ≤ᶠ high /10^ 6
  pub narrow : high ≤ low + 10

-- "a definition gives this paper's number and values for each of the enum's cases": the low and the high of a band, and a refusal has none
abbrev pub FactorAnswer : Type 0
FactorAnswer = Answer Band

unfoldable pub answer_low : FactorAnswer → ℕ
answer_low (Ok band) = band.low
answer_low (Err refusal) = 0

unfoldable pub answer_high : FactorAnswer → ℕ
answer_high (Ok band) = band.high
answer_high (Err refusal) = 0

-- Call | 23 season, row or factor absent | 0: "it makes every check of the sheet first"
abbrev pub factor_demands : List ℕ → ℕ → ℕ → ℕ → Demands
factor_demands s season row k =
    demands s next
    demand rule.Absent 0 (((season < seasons_of s) × (row < rows_of s)) × ((1 ≤ k) × (k ≤ 7)))
