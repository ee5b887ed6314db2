-- The text of a sheet that is too long is that of its front, a refusal.
-- Assumes nothing.
use Rattle.std.proofs.Common.{ℕ, List, refl}
use Rattle.refusals.specs.Check.{◌then◌}
use Rattle.inventory.specs.ReportAnswers.{report_check}
use Rattle.species_report.specs.Composition.{composition, composition_answered}
use Rattle.species_report.specs.SpeciesText.{lines_of, species_text}
use Rattle.program.proofs.Printing.{OfFront}

pub of_front : OfFront (λ (s : List ℕ). species_text s 6026)
unfolding species_text composition composition_answered report_check lines_of ◌then◌
of_front = record { same = λ s s' b. rw (b.first, b.second) refl }
