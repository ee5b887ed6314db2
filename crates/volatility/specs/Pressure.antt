-- "Ten. More volatile fuel, more vapour.": two sheets, their exact masses and their words. Definitions only.
use Rattle.std.specs.Prelude.{None, List, ◌≡◌, ℕ, ◌+◌, ◌*◌, ◌≤◌, ◌<◌}
use Rattle.numbers.specs.Fraction.{◌≤ᶠ◌}
use Rattle.numbers.specs.Lists.{at}
use Rattle.exact.specs.Masses.{Mechanism, diurnal, soak, running, mass}
use Rattle.refusals.specs.Check.{Check, Pass, number_of}
use Rattle.sheet.specs.Integers.{u8_at, u16_at}
use Rattle.sheet.specs.Bytes.{seasons_of, rows_of, cells_of, season_place, season_list, row_at}
use Rattle.sheet.specs.Sheet.{sheet_check}
use Rattle.report_words.specs.Report.{report}
use Rattle.inventory.specs.ReportCall.{ReportCall}

-- where the vapour pressure of season j starts: "Season, 8 bytes: .. u16 vapour pressure vp", its last two bytes in every version
abbrev pub pressure_place : List ℕ → ℕ → ℕ
pressure_place s j = season_place s j + 6

-- "alike but for one season's vapour pressure": every byte but the two of season j's pressure is the same, the version's too, and t is
-- "the sheet with the higher pressure", or both have the same
pub record HigherPressure (s t : List ℕ) (j : ℕ) : Type 0 where
  pub season-of-s : j < seasons_of s
  pub elsewhere : (k : ℕ) → ¬ (k ≡ pressure_place s j) → ¬ (k ≡ pressure_place s j + 1) → u8_at t k ≡ u8_at s k
  pub higher : u16_at s (pressure_place s j) ≤ u16_at t (pressure_place s j)

-- "for every row without a canister": one of s, by the canister that counts for it, written or of its class
pub record OpenRow (s : List ℕ) (i : ℕ) : Type 0 where
  pub row-of-s : i < rows_of s
  pub no-canister : (row_at s i).canister ≡ None

-- where the words of row i stand: "diurnal, soak, running, each low then high"
abbrev pub low_place : ℕ → Mechanism → ℕ
low_place i diurnal = 6 * i
low_place i soak = 6 * i + 2
low_place i running = 6 * i + 4

abbrev pub high_place : ℕ → Mechanism → ℕ
high_place i diurnal = 6 * i + 1
high_place i soak = 6 * i + 3
high_place i running = 6 * i + 5

-- "exact masses at least as large for every row without a canister, mechanism by mechanism and for every n from 40 upward": in fact
-- for every n
abbrev pub MassTheorem : Type 0
MassTheorem = (s t : List ℕ) (j i n : ℕ) (m : Mechanism) → HigherPressure s t j → sheet_check s ≡ Pass → sheet_check t ≡ Pass → OpenRow s i
    → mass n (cells_of s) (season_list s) (row_at s i) m ≤ᶠ mass n (cells_of t) (season_list t) (row_at t i) m

-- "Its reported high is never below the other's low.": in the reports, as functions of the bytes, which are below 256,
abbrev pub WordTheorem : Type 0
WordTheorem = (s t : List ℕ) (j i : ℕ) (m : Mechanism) → ((k : ℕ) → u8_at s k < 256) → ((k : ℕ) → u8_at t k < 256)
    → HigherPressure s t j → sheet_check s ≡ Pass → sheet_check t ≡ Pass → OpenRow s i
    → at (report s) (low_place i m) ≤ at (report t) (high_place i m)

-- and in the words that the report call leaves: some buffer held `old`, and the call answered number 0
pub record Reported (s words : List ℕ) : Type 0 where
  pub old : List ℕ
  pub answer : Check
  pub left : ReportCall s old words answer
  pub accepted : number_of answer ≡ 0

abbrev pub CallTheorem : Type 0
CallTheorem = (s t words others : List ℕ) (j i : ℕ) (m : Mechanism) → HigherPressure s t j → Reported s words → Reported t others → OpenRow s i
    → at words (low_place i m) ≤ at others (high_place i m)
