-- How the program `report` ends. Definitions only.
use Rattle.std.specs.Prelude.{List, ℕ, Option}
use Rattle.program.specs.Ends.{Ends}
use Rattle.program.specs.Printed.{Prints}
use Rattle.report_text.specs.Text.{report_text}

-- with the text of the sheet that was read, where the buffer for its report has 6,026 words, those of 1,000 rows
abbrev pub ReportRan : ℕ → Type 0
ReportRan = Ends (λ (s : List ℕ). report_text s 6026)

-- and what it prints of a source whose bytes are known, where what is printed is known
abbrev pub ReportPrints : Option (List ℕ) → Option (List ℕ) → Option (List ℕ) → ℕ → Type 0
ReportPrints = Prints (λ (s : List ℕ). report_text s 6026)
