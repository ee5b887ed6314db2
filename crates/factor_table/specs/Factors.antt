-- What the call for all factors of a sheet answers and what it leaves in the buffer. Definitions only.
use Rattle.std.specs.Prelude.{List, ◌≡◌, ℕ, ◌+◌, ◌*◌, ◌≤◌, ◌<◌, length, Ok}
use Rattle.numbers.specs.Lists.{at}
use Rattle.blocks.specs.Blocks.{blocks}
use Rattle.refusals.specs.declared.Rule.TheVariants as rule
use Rattle.refusals.specs.Check.{Check, number_of, place_of}
use Rattle.sheet.specs.Bytes.{seasons_of, rows_of}
use Rattle.sheet.specs.Demands.{Demands, demand, ◌next◌, Says, demands}
use Rattle.inventory.specs.FactorAnswers.{factor_answer}
use Rattle.inventory.specs.FactorBand.{FactorBand}
use Rattle.inventory.specs.ReportAnswers.{room_check}
use Rattle.inventory.specs.ReportCall.{written}
use Rattle.factor_table.specs.RowFactors.{band_words, low_place, high_place}

-- 14 words for each season and row
unfoldable pub factors_length : List ℕ → ℕ
factors_length s = 14 * rows_of s * seasons_of s

-- those of one season, row by row,
unfoldable pub season_factors : List ℕ → ℕ → List ℕ
season_factors s season = blocks (band_words s season) (rows_of s)

-- and of all, season by season
unfoldable pub all_factors : List ℕ → List ℕ
all_factors s = blocks (season_factors s) (seasons_of s)

-- number 22 where the buffer is short, after every check of the sheet
unfoldable pub factors_check : List ℕ → ℕ → Check
factors_check s room = room_check factors_length s room

abbrev pub factors_demands : List ℕ → ℕ → Demands
factors_demands s room = demands s next demand rule.Room 0 (factors_length s ≤ room)

-- where the words of a season and row start
abbrev pub row_start : List ℕ → ℕ → ℕ → ℕ
row_start s season row = 14 * rows_of s * season + 14 * row

-- What holds after the call, with the words that stood in the buffer before it and those that stand there now: "a refused call leaves the
-- buffer", words beyond stay, and each pair is a band of the factor call and its answer.
pub record FactorsCall (s old words : List ℕ) (r : Check) : Type 0 where
  pub answer-is : r ≡ factors_check s (length old)
  pub words_are : words ≡ written r (all_factors s) old
  pub says : Says (factors_demands s (length old)) (number_of r) (place_of r)
  pub bands : number_of r ≡ 0 → (season row k : ℕ) → season < seasons_of s → row < rows_of s → 1 ≤ k → k ≤ 7
      → FactorBand s season row k (at words (row_start s season row + low_place k)) (at words (row_start s season row + high_place k))
  pub same : number_of r ≡ 0 → (season row k : ℕ) → season < seasons_of s → row < rows_of s → 1 ≤ k → k ≤ 7
      → Ok (record { low = at words (row_start s season row + low_place k); high = at words (row_start s season row + high_place k) })
      ≡ factor_answer s season row k
