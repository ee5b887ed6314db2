-- The text of a sheet that is too long is that of its front, a refusal.
-- Assumes nothing.
use Rattle.std.proofs.Common.{ℕ, List, refl}
use Rattle.refusals.specs.Check.{◌then◌}
use Rattle.inventory.specs.ReportAnswers.{report_check}
use Rattle.report_text.specs.Text.{text_of, report_text}
use Rattle.program.proofs.Printing.{OfFront}

pub of_front : OfFront (λ (s : List ℕ). report_text s 6026)
unfolding report_text report_check text_of ◌then◌
of_front = record { same = λ s s' b. rw (b.first, b.second) refl }
