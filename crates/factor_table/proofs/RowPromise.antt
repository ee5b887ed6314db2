-- What the call for the factors of a row answers is what is promised of it.
use Rattle.std.proofs.Common.{Ok, Err}
use mathlib.Core.List.{List}
use mathlib.Core.Path.{◌≡◌, refl, ◌∙◌}
use Prim.Native.Nat.{ℕ, ◌≤◌}
use native.Mathlib.Omega.{arith}
use borrow.Author.Tests.{le-ltb}
use Rattle.refusals.specs.declared.Refusal.{Refusal}
use Rattle.refusals.specs.Check.{Check, Pass, number_of, place_of}
use Rattle.sheet.specs.Sheet.{outside}
use Rattle.sheet.proofs.Accepted.{Bytes}
use Rattle.inventory.specs.declared.Band.{Band}
use Rattle.inventory.specs.FactorAnswers.{factor_check, factor_answer}
use Rattle.inventory.specs.FactorBand.{FactorBand, answer_low, answer_high}
use Rattle.inventory.proofs.CallConditions.{factor-says}
use Rattle.inventory.proofs.FactorPromise.{band-is, promised, refusal_is}
use Rattle.factor_table.specs.RowFactors.{row_bands, band_at, RowFactors, row_check, row_answered, row_answer, one_of, RowFactorsCall}
use Rattle.factor_table.proofs.SevenBands.{band-at}

-- the number and the place of either outcome
numbers-same : (c : Check) (bands : List Band) → (number_of (row_answered c bands) ≡ number_of c) × (place_of (row_answered c bands) ≡ place_of c)
unfolding row_answered number_of place_of
numbers-same (Ok _) bands = (refl, refl)
numbers-same (Err refusal) bands = (refl, refl)

module _ (s : List ℕ) (season row : ℕ) (bytes : Bytes s) where
  -- the factor call makes the same checks, whichever of the seven is asked for
  check-same : (k : ℕ) → 1 ≤ k → k ≤ 7 → factor_check s season row k ≡ row_check s season row
  unfolding factor_check outside
  check-same k least most = rw (le-ltb k 1 least, le-ltb 7 k most) refl

  module _ (k : ℕ) (least : 1 ≤ k) (most : k ≤ 7) (passed : row_check s season row ≡ Pass) where
    -- the factor call answers this band
    pub band-same : Ok (band_at (row_bands s season row) k) ≡ factor_answer s season row k
    band-same = band-is s season row k bytes (check-same k least most ∙ passed) (band-at s season row k least most)

    -- and promises this of it
    pub band-holds : FactorBand s season row k (band_at (row_bands s season row) k).low (band_at (row_bands s season row) k).high
    unfolding number_of answer_low answer_high
    band-holds = (promised s season row k bytes band-same).band refl

  -- for either outcome of the checks
  kept : (c : Check) → row_check s season row ≡ c → {r : RowFactors} → r ≡ row_answered c (row_bands s season row)
      → ((v : List Band) → r ≡ Ok v → (k : ℕ) → 1 ≤ k → k ≤ 7 → FactorBand s season row k (band_at v k).low (band_at v k).high)
      × ((k : ℕ) → 1 ≤ k → k ≤ 7 → one_of r k ≡ factor_answer s season row k)
  unfolding row_answered one_of
  kept (Ok _) h e = (
    λ v f k l m. let same : v ≡ row_bands s season row = cc in rw same (band-holds k l m h),
    λ k l m. rw e (band-same k l m h),
  )
  kept (Err refusal) h e = (
    λ v f. let clash : ◌≡◌ {A = ℕ} 0 1 = cc in absurd (omega arith),
    λ k l m. rw e (refusal_is s season row k bytes (check-same k l m ∙ h)),
  )

  -- an answer that is the definition's is what is promised
  pub row-promised : {r : RowFactors} → r ≡ row_answer s season row → RowFactorsCall s season row r
  unfolding row_answer
  row-promised e =
      let k = kept (row_check s season row) refl e in
      let n = numbers-same (row_check s season row) (row_bands s season row) in
      record { answer-is = e; says = rw (e, n.0, n.1) (factor-says s season row 1); bands = k.0; same = k.1 }

  -- Each outcome of the code is the definition's.
  pub refused-is : {r : RowFactors} {refusal : Refusal} → row_check s season row ≡ Err refusal → r ≡ Err refusal → r ≡ row_answer s season row
  unfolding row_answer row_answered
  refused-is h e = e ∙ rw h refl

  pub passed_is : {r : RowFactors} {bands : List Band} → row_check s season row ≡ Pass → bands ≡ row_bands s season row → r ≡ Ok bands
      → r ≡ row_answer s season row
  unfolding row_answer row_answered
  passed_is h b e = e ∙ rw (h, b) refl
