-- The lines that the program `species` prints for an accepted sheet, from the version, the total and the masses of the species.
-- Definitions only.
use Rattle.std.specs.Prelude.{List, [], ◌++◌, ℕ, suc, zero, get_or}
use Rattle.numbers.specs.Lists.{at}
use Rattle.text.specs.Ascii.{bytes}
use Rattle.text.specs.Decimal.{digits}
use Rattle.text.specs.Lines.{pair_line}
use Rattle.speciation.specs.Table.{names}

-- `EVP V total T`
unfoldable pub total_line : ℕ → ℕ → List ℕ
total_line version total = pair_line (bytes "EVP ") version (bytes " total ") total

-- the name of species i, counted from 0
unfoldable pub name_at : ℕ → List ℕ
name_at i = bytes (get_or names i "")

-- the name and the milligrams of species i; the lines of the first n
unfoldable pub species_line : List ℕ → ℕ → List ℕ
species_line masses i = name_at i ++ bytes " " ++ digits (at masses i) ++ bytes "\n"

unfoldable pub species_lines : List ℕ → ℕ → List ℕ
species_lines masses zero = []
species_lines masses (suc n) = species_lines masses n ++ species_line masses n

-- all lines
unfoldable pub composition_lines : ℕ → ℕ → List ℕ → List ℕ
composition_lines version total masses = total_line version total ++ species_lines masses 29
