-- What the call of the species answers a program in another language, and what it leaves in the buffer. Definitions only.
use Rattle.std.specs.Prelude.{List, ◌≡◌, ℕ, ltb, length}
use Rattle.refusals.specs.declared.Rule.TheVariants as rule
use Rattle.refusals.specs.Check.{Check, refuse}
use Rattle.inventory.specs.ReportCall.{written}
use Rattle.speciation.specs.Split.{species_masses, SpeciesPromise}
use Rattle.boundary.specs.declared.EvpCheck.{EvpCheck}
use Rattle.boundary.specs.Export.{check_numbers}

-- a short buffer is refused as that of a report is: 22, place 0
unfoldable pub species_check : ℕ → Check
species_check room = refuse (ltb room 29) rule.Room 0

-- What holds after the call, with the words that stood in the buffer before it and those that stand there now: a refusal changes no
-- word, an accepted call none beyond the 29.
pub record SpeciesNumbers (total : ℕ) (old new : List ℕ) (r : EvpCheck) : Type 0 where
  pub answer-is : r ≡ check_numbers (species_check (length old))
  pub masses-are : new ≡ written (species_check (length old)) (species_masses total) old
  pub promise : r.number ≡ 0 → SpeciesPromise total new
