-- Each outcome of the code is the answer, and keeps what is promised.
-- Assumes nothing.
use Rattle.std.proofs.Common.{Ok, Err}
use mathlib.Core.List.{List}
use mathlib.Core.Path.{◌≡◌, refl, sym, ◌∙◌, ap}
use Prim.Native.Nat.{ℕ, ◌+◌, ◌*◌, ◌≤◌, ◌<◌}
use native.Mathlib.Omega.{arith}
use lib.ListN.{length}
use Rattle.numbers.specs.Lists.{at}
use Rattle.refusals.specs.declared.Refusal.{Refusal}
use Rattle.refusals.specs.Check.{Answer, Check, Pass}
use Rattle.sheet.specs.Bytes.{rows_of}
use Rattle.sheet.proofs.Accepted.{Accepted}
use Rattle.sheet.proofs.Versions.{start_between}
use Rattle.report_words.specs.Report.{report}
use Rattle.report_words.specs.Categories.{report_length}
use Rattle.report_words.proofs.ReportPlaces.{report-length, total-at}
use Rattle.inventory.specs.ReportCall.{ReportCall}
use Rattle.inventory.specs.ReportAnswers.{report_check}
use Rattle.inventory.proofs.CallConditions.{report-accepted}
use Rattle.inventory.proofs.Written.{written-first, written-length}
use Rattle.speciation.specs.Split.{species_masses, SpeciesPromise}
use Rattle.species_report.specs.declared.composition.Composition.{Composition}
use Rattle.species_report.specs.Composition.{high_total, composition_answered, composition, CompositionCall}

module _ {s old words : List ℕ} {check : Check} (a : ReportCall s old words check) where
  answer-of : composition_answered check s ≡ composition s (length old)
  unfolding composition
  answer-of = ap (λ (c : Check). composition_answered c s) a.answer-is

  -- A refused sheet.
  pub refusal_is : {refusal : Refusal} → check ≡ Err refusal → CompositionCall s old words (Err refusal)
  unfolding composition_answered
  refusal_is {refusal} e = record {
    answer-is = rw e at answer-of;
    reported = rw a.answer-is at a;
    total-is = λ c h. none h;
    promise = λ c h. none h;
  }
    where
      none : {c : Composition} {A : Type 0} → ◌≡◌ {A = Answer Composition} (Err refusal) (Ok c) → A
      none h = let clash : ◌≡◌ {A = ℕ} 0 1 = cc in absurd (omega arith)

  -- An accepted one.
  module _ (passed : check ≡ Pass) where
    there : Accepted s × (report_length s ≤ length old)
    there = report-accepted s (length old) (sym a.answer-is ∙ passed)

    pub head-there : 8 ≤ length s
    head-there = omega (arith, there.0.length-is, start_between s)

    -- the last word is there, and is the high of the grand total
    pub last-there : 6 * rows_of s + 25 < length words
    unfolding report_length
    last-there =
        omega (arith, ap length a.words_are, written-length check (report s) old (omega (arith, there.1, report-length s)), there.1)

    last_word : at words (6 * rows_of s + 25) ≡ high_total s
    unfolding report_length
    last_word =
        rw (a.words_are, passed)
        (written-first (report s) old (6 * rows_of s + 25) (omega (arith, report-length s)) ∙
        ap (at (report s)) {x = 6 * rows_of s + 25} {y = 6 * rows_of s + 24 + 1} (omega arith) ∙
        total-at s 1 (omega arith))

    pub species-are : {total : ℕ} {masses : List ℕ}
        → total ≡ at words (6 * rows_of s + 25) → masses ≡ species_masses total → SpeciesPromise total masses
        → CompositionCall s old words (Ok (record { total = total; milligrams = masses }))
    unfolding composition_answered
    species-are {total} {masses} t m p = record {
      answer-is = rw (m, t ∙ last_word) (rw passed at answer-of);
      reported = rw a.answer-is at a;
      total-is = λ c h. let same = of_ok h in rw (← same) t;
      promise = λ c h. let same = of_ok h in rw (← same) p;
    }
      where
        of_ok : {b c : Composition} → ◌≡◌ {A = Answer Composition} (Ok b) (Ok c) → b ≡ c
        of_ok h = cc

-- Of an accepted sheet there is the head, and the species are those of the total.
accepted-check : (check : Check) (s : List ℕ) (c : Composition) → composition_answered check s ≡ Ok c
    → (check ≡ Pass) × (c.milligrams ≡ species_masses c.total)
unfolding composition_answered
accepted-check (Ok _) s c e =
    let made : ◌≡◌ {A = Composition} (record { total = high_total s; milligrams = species_masses (high_total s) }) c = cc in
    (refl, rw (← made) refl)
accepted-check (Err refusal) s c e = let clash : ◌≡◌ {A = ℕ} 0 1 = cc in absurd (omega arith)

pub species-found : {s old words : List ℕ} {found : Answer Composition} → CompositionCall s old words found
    → (c : Composition) → found ≡ Ok c → (8 ≤ length s) × (c.milligrams ≡ species_masses c.total)
unfolding composition
species-found {s} {old} a c e =
    let made = accepted-check (report_check s (length old)) s c (sym a.answer-is ∙ e) in
    (head-there a.reported made.0, made.1)
