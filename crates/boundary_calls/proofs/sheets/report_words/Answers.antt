-- `boundary_calls::sheets::report_words` meets its contract: a refused sheet has no words, an accepted one those of its report.
-- Assumes nothing.
use Rattle.std.proofs.Common.{◌≡◌, Ok, Err, List, ℕ, ◌≤◌}
use Rattle.std.specs.Prelude.{MatchResult}
use Rattle.refusals.specs.Check.{Answer}
use Rattle.checks.specs.declared.accepted.Accepted.{Accepted}
use Rattle.sheet.specs.Sheet.{sheet_check}
use Rattle.report_words.specs.Categories.{report_length}
use Rattle.boundary.specs.SheetExport.{WordsCounted}
use Rattle.boundary.proofs.WordsCounted.{none-counted, all-counted}
use Rattle.boundary_calls.proofs.sheets.report_words.Goals as goal

counted : (s : List ℕ) (a : Answer Accepted) (n : ℕ) → MatchResult a (λ sheet. sheet.bytes.now ≡ s) (λ refusal. sheet_check s ≡ Err refusal)
    → MatchResult a (λ sheet. (n ≡ report_length sheet.bytes.now) × (n ≤ 6026)) (λ _. n ≡ 0) → WordsCounted s n
counted s (Ok sheet) n same count = all-counted s (rw same at sheet.passed) (rw same at count.0)
counted s (Err refusal) n refused zero = rw zero (none-counted s refused)

pub returns : goal.returns
returns c = counted _ _ _ c.of.ensures c.map_or.ensures
