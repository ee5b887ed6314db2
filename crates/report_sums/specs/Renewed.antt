-- A report in which one row's words are made anew. Definitions only.
use Rattle.std.specs.Prelude.{ℕ, ◌*◌, List}
use Rattle.std.proofs.lemmas.List.Edits.{sets}
use Rattle.report_words.specs.Report.{words_of}
use Rattle.report_sums.specs.Sums.{resummed}

-- the buffer with the six words of row i of the sheet in their place, and all sums of what the buffer then holds
unfoldable pub renewed : List ℕ → ℕ → List ℕ → List ℕ
renewed s i words = resummed s (sets words (6 * i) (words_of s i))
