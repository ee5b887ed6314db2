-- The species written to a buffer: 29 words at its front, or none.
-- Assumes nothing.
use mathlib.Core.List.{List}
use mathlib.Core.Path.{◌≡◌, sym, ap, ◌∙◌}
use Prim.Native.Nat.{ℕ, ◌≤◌, ◌<◌}
use native.Mathlib.Omega.{arith}
use borrow.Author.Tests.{le-ltb}
use lib.ListN.{length}
use Rattle.numbers.specs.Lists.{at}
use Rattle.numbers.proofs.Lists.{tab-length, sum-ext}
use Rattle.refusals.specs.Check.{Check, Pass, refuse}
use Rattle.refusals.proofs.Numbers.{zero-passes}
use Rattle.inventory.specs.ReportCall.{written}
use Rattle.inventory.proofs.Written.{written-first}
use Rattle.speciation.specs.Split.{species_mass, species_masses, SpeciesPromise}
use Rattle.speciation.proofs.Promised.{promised}
use Rattle.boundary.specs.declared.EvpCheck.{EvpCheck}
use Rattle.boundary.specs.Export.{check_numbers}
use Rattle.boundary.proofs.Numbers.{check-is}
use Rattle.boundary.specs.SpeciesCall.{species_check, SpeciesNumbers}

-- there are 29 of them
pub masses-length : (total : ℕ) → length (species_masses total) ≡ 29
unfolding species_masses
masses-length total = tab-length (species_mass total) 29

-- what is promised of the masses holds of the first words of the buffer
first-words : (total : ℕ) (old : List ℕ) → SpeciesPromise total (written Pass (species_masses total) old)
first-words total old =
    let p = promised total in
    record {
      adds-up = sum-ext 29 same ∙ p.adds-up;
      not-above = λ i h. rw (same i h) (p.not-above i h);
      not-below = λ i h. rw (same i h) (p.not-below i h);
      nothing = λ i h e. same i h ∙ p.nothing i h e;
    }
  where
    same : (i : ℕ) → i < 29 → at (written Pass (species_masses total) old) i ≡ at (species_masses total) i
    same i h = written-first (species_masses total) old i (omega (arith, masses-length total))

-- a buffer with room passes
pub room-passes : (room : ℕ) → 29 ≤ room → species_check room ≡ Pass
unfolding species_check refuse
room-passes room h = rw (le-ltb room 29 h)

-- what holds of the answer and of the buffer holds of the numbers
pub species-numbers : (total : ℕ) (old : List ℕ) {new : List ℕ} {c : Check} {r : EvpCheck} → c ≡ species_check (length old)
    → new ≡ written (species_check (length old)) (species_masses total) old → r ≡ check_numbers c → SpeciesNumbers total old new r
unfolding check_numbers
species-numbers total old {new} {c} {r} a w e =
    let n : r ≡ check_numbers (species_check (length old)) = e ∙ ap check_numbers a in
    record {
      answer-is = n;
      masses-are = w;
      promise = λ none.
          let passed = zero-passes (species_check (length old)) (ap (λ (x : EvpCheck). x.number) (sym (n ∙ check-is _)) ∙ none) in
          rw (w, passed) (first-words total old);
    }
