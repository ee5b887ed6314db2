-- "What the marker trusts about a row holds for its cells". Definitions only.
use Rattle.std.specs.Prelude.{List, Ok, ◌≡◌, ℕ, ◌+◌, ◌*◌, ◌≤◌, ◌<◌}
use Rattle.numbers.specs.Fraction.{Fraction, ◌*ᶠ◌, whole}
use Rattle.numbers.specs.Lists.{at}
use Rattle.exact.specs.Masses.{Mechanism, diurnal, soak, running, mass}
use Rattle.refusals.specs.Check.{Check, number_of}
use Rattle.sheet.specs.Bytes.{rows_of, cells_of, season_list, row_at}
use Rattle.inventory.specs.ReportCall.{ReportCall}
use Rattle.map_cells.specs.declared.Cell.{Cell}
use Rattle.map_cells.specs.Values.{InCell}
use Rattle.map_shares.specs.declared.Words.{Words}
use Rattle.map_shares.specs.Kinds.{Road}
use Rattle.map_shares.specs.declared.Travel.{Travel}
use Rattle.map_shares.specs.Roads.{urban_road, rural_road, highway_road}
use Rattle.map_shares.specs.ExactShares.{ExactMasses, exact_sum}
use Rattle.map_rows.specs.Kinds.{RowCells}
use Rattle.map_rows.specs.Rows.{row_cells_answer}

-- "From a row's report words": the six of row i, as they stand in the buffer
abbrev pub row_words : List ℕ → ℕ → Words
row_words words i = record {
  diurnal = record { low = at words (6 * i); high = at words (6 * i + 1) };
  soak = record { low = at words (6 * i + 2); high = at words (6 * i + 3) };
  running = record { low = at words (6 * i + 4); high = at words (6 * i + 5) };
}

-- row i's exact mass of a mechanism, in milligrams
abbrev pub milligrams : ℕ → List ℕ → ℕ → Mechanism → Fraction
milligrams n s i mechanism = mass n (cells_of s) (season_list s) (row_at s i) mechanism *ᶠ whole 1000

abbrev pub exact_masses : ℕ → List ℕ → ℕ → ExactMasses
exact_masses n s i = record { diurnal = milligrams n s i diurnal; soak = milligrams n s i soak; running = milligrams n s i running }

-- for every n from 40 upward, "the sum of a cell's exact shares lies in that cell, and is 0 where the cell is empty"
abbrev pub Holds : List ℕ → ℕ → Road → Cell → Type 0
Holds s i road c = (n : ℕ) → 40 ≤ n → InCell c (exact_sum (exact_masses n s i) road)

pub record Marked (s : List ℕ) (i : ℕ) (t : Travel) (v : RowCells) : Type 0 where
  pub urban : Holds s i (urban_road t) v.urban
  pub rural : Holds s i (rural_road t) v.rural
  pub highway : Holds s i (highway_road t) v.highway

-- so it is after every report call that accepts its sheet, of any version, for each row and wherever its vehicles drive
abbrev pub MarkedTheorem : Type 0
MarkedTheorem =
    (s old words : List ℕ) (r : Check) → ReportCall s old words r → number_of r ≡ 0
    → (i : ℕ) → i < rows_of s → (t : Travel) (v : RowCells) → row_cells_answer (row_words words i) t ≡ Ok v → Marked s i t v
