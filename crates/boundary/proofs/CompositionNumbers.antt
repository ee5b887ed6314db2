-- What holds of the species of a sheet holds of the numbers that leave the library.
-- Assumes nothing.
use Rattle.std.proofs.Common.{Ok, Err}
use mathlib.Core.List.{List}
use mathlib.Core.Path.{◌≡◌, refl, ◌∙◌, ap}
use Prim.Native.Nat.{ℕ, ◌+◌, ◌*◌}
use native.Mathlib.Omega.{arith}
use lib.ListN.{length}
use Rattle.numbers.specs.Lists.{at}
use Rattle.refusals.specs.Check.{Answer, Check, number_of, place_of}
use Rattle.refusals.proofs.Numbers.{number-above}
use Rattle.sheet.specs.Bytes.{rows_of}
use Rattle.inventory.specs.ReportAnswers.{report_check}
use Rattle.speciation.specs.Split.{SpeciesPromise}
use Rattle.species_report.specs.declared.composition.Composition.{Composition}
use Rattle.species_report.specs.Composition.{composition, composition_answered, CompositionCall}
use Rattle.boundary.specs.declared.EvpComposition.{EvpComposition}
use Rattle.boundary.specs.CompositionExport.{composition_numbers, CompositionNumbers}

-- the number and the place are those of the report's check
module _ (s : List ℕ) where
  number-is : (check : Check) → (composition_numbers (composition_answered check s)).number ≡ number_of check
  unfolding composition_numbers composition_answered number_of
  number-is (Ok _) = refl
  number-is (Err refusal) = refl

  place-is : (check : Check) → (composition_numbers (composition_answered check s)).place ≡ place_of check
  unfolding composition_numbers composition_answered place_of
  place-is (Ok _) = refl
  place-is (Err refusal) = refl

-- with number 0 there are species
found : {s old words : List ℕ} (a : Answer Composition) → CompositionCall s old words a → (composition_numbers a).number ≡ 0
    → ((composition_numbers a).total ≡ at words (6 * rows_of s + 25)) ×
    SpeciesPromise (composition_numbers a).total (composition_numbers a).milligrams
unfolding composition_numbers
found (Ok c) call zero = (call.total-is c refl, call.promise c refl)
found (Err refusal) call zero = let above = number-above refusal.rule in absurd (omega (arith, above, zero))

pub composition-numbers : {s old words : List ℕ} {c : Answer Composition} {r : EvpComposition} → CompositionCall s old words c
    → r ≡ composition_numbers c → CompositionNumbers s old words r
unfolding composition
composition-numbers {s} {old} {words} {c} {r} a e =
    let check = report_check s (length old) in
    let made : r ≡ composition_numbers (composition_answered check s) = e ∙ ap composition_numbers a.answer-is in
    let number : r.number ≡ number_of check = ap (λ (x : EvpComposition). x.number) made ∙ number-is s check in
    let place : r.place ≡ place_of check = ap (λ (x : EvpComposition). x.place) made ∙ place-is s check in
    record {
      answer-is = made;
      words_are = a.reported.words_are;
      says = rw (number, place) a.reported.says;
      reported = rw number a.reported.promise;
      total-is = rw e (λ zero. (found c a zero).0);
      promise = rw e (λ zero. (found c a zero).1);
    }
