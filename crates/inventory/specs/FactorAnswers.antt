-- Need not be believed: the answer of the factor call as the program computes it, a function of the bytes and the three numbers.
use Rattle.std.specs.Prelude.{◌||◌, List, ℕ, leb, Ok, Err}
use Rattle.refusals.specs.declared.Refusal.{Refusal}
use Rattle.refusals.specs.declared.Rule.TheVariants as rule
use Rattle.refusals.specs.Check.{Check, refuse, ◌then◌}
use Rattle.sheet.specs.Bytes.{seasons_of, rows_of, cells_of, season_at, row_at}
use Rattle.sheet.specs.Sheet.{outside, sheet_check}
use Rattle.factors.specs.Units.{factor_units, low_micrograms, high_micrograms}
use Rattle.inventory.specs.declared.Band.{Band}
use Rattle.inventory.specs.declared.asked.Factor.{Factor}
use Rattle.inventory.specs.declared.asked.Factor.TheVariants.{Diurnal, SoakInjection, SoakWarm, SoakHot, RunningInjection, RunningWarm, RunningHot}
use Rattle.inventory.specs.FactorBand.{FactorAnswer, numbered}

-- the refusal of a season, a row or a factor that is not there
abbrev pub absent : Refusal
absent = record { rule = rule.Absent; place = 0 }

-- the numbers of the seven factors
unfoldable pub factor_number : Factor → ℕ
factor_number Diurnal = 1
factor_number SoakInjection = 2
factor_number SoakWarm = 3
factor_number SoakHot = 4
factor_number RunningInjection = 5
factor_number RunningWarm = 6
factor_number RunningHot = 7

-- Call | 23 season, row or factor absent | 0: "it makes every check of the sheet first"
unfoldable pub factor_check : List ℕ → ℕ → ℕ → ℕ → Check
factor_check s season row k =
    sheet_check s then
    refuse (leb (seasons_of s) season || leb (rows_of s) row || outside 1 7 k) rule.Absent 0

-- the computed factor, in units of 2⁻²⁸ g
unfoldable pub units_at : List ℕ → ℕ → ℕ → ℕ → ℕ
units_at s season row k = factor_units (season_at s season) (row_at s row) (cells_of s) (numbered k)

-- a factor's low and high in micrograms
abbrev pub band : ℕ → Band
band units = record { low = low_micrograms units; high = high_micrograms units }

unfoldable pub factor_answered : Check → ℕ → FactorAnswer
factor_answered (Ok _) units = Ok (band units)
factor_answered (Err refusal) units = Err refusal

-- the answer, as a function of the bytes and the three numbers
unfoldable pub factor_answer : List ℕ → ℕ → ℕ → ℕ → FactorAnswer
factor_answer s season row k = factor_answered (factor_check s season row k) (units_at s season row k)
