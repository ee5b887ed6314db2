-- How the program `species` ends. Definitions only.
use Rattle.std.specs.Prelude.{List, ℕ, Option}
use Rattle.program.specs.Ends.{Ends}
use Rattle.program.specs.Printed.{Prints}
use Rattle.species_report.specs.SpeciesText.{species_text}

-- with the text of the sheet that was read, where the buffer for its report has 6,026 words, those of 1,000 rows
abbrev pub SpeciesRan : ℕ → Type 0
SpeciesRan = Ends (λ (s : List ℕ). species_text s 6026)

-- and what it prints of a source whose bytes are known, where what is printed is known
abbrev pub SpeciesPrints : Option (List ℕ) → Option (List ℕ) → Option (List ℕ) → ℕ → Type 0
SpeciesPrints = Prints (λ (s : List ℕ). species_text s 6026)
