-- What the factor call answers is what document 01 promises: a band around the exact factor, or a refusal.
-- Assumes nothing.
use Rattle.std.proofs.Common.{Ok, Err}
use mathlib.Core.List.{List}
use mathlib.Core.Path.{◌≡◌, refl}
use Prim.Native.Nat.{ℕ}
use native.Mathlib.Omega.{arith}
use Rattle.factors.specs.Units.{low_micrograms, high_micrograms}
use Rattle.factors.proofs.FactorBound.{high-near-low}
use Rattle.refusals.specs.Check.{Check, Pass, number_of, place_of}
use Rattle.sheet.specs.Demands.{Says}
use Rattle.sheet.proofs.Accepted.{Bytes}
use Rattle.refusals.specs.declared.Refusal.{Refusal}
use Rattle.inventory.specs.FactorAnswers.{band, factor_check, units_at, factor_answered, factor_answer}
use Rattle.inventory.specs.declared.Band.{Band}
use Rattle.inventory.specs.FactorBand.{numbered, FactorBand}
use Rattle.inventory.specs.FactorBand.{FactorAnswer, answer_low, answer_high, factor_demands}
use Rattle.inventory.specs.FactorCall.{FactorCall}
use Rattle.sheet_factors.proofs.AcceptedRange.{enclosed}
use Rattle.inventory.proofs.CallConditions.{factor-accepted, factor-says}
use Rattle.refusals.proofs.Numbers.{zero-passes}

module _ (s : List ℕ) (season row k : ℕ) (bytes : Bytes s) where
  -- "at most 10 micrograms apart", around the exact factor
  factor-band : factor_check s season row k ≡ Pass
      → FactorBand s season row k (low_micrograms (units_at s season row k)) (high_micrograms (units_at s season row k))
  unfolding units_at
  factor-band h =
      let (a, season-there, row-there, least, most) = factor-accepted s season row k h in
      let e = enclosed bytes a row-there season-there in
      record {
        above = e.above (numbered k);
        below = e.below (numbered k);
        narrow = omega (arith, high-near-low (units_at s season row k));
      }

  -- for either outcome of the checks
  reply-kept : (c : Check) → factor_check s season row k ≡ c → {r : FactorAnswer} → r ≡ factor_answered c (units_at s season row k)
      → Says (factor_demands s season row k) (number_of r) (place_of r)
      × (number_of r ≡ 0 → FactorBand s season row k (answer_low r) (answer_high r))
  unfolding factor_answered answer_low answer_high number_of place_of
  reply-kept (Ok _) h e = rw e (rw h at (factor-says s season row k), λ _. factor-band h)
  reply-kept (Err refusal) h e =
      rw e (
        rw h at (factor-says s season row k),
        λ zero.
            let passed : factor_check s season row k ≡ Pass =
            zero-passes (factor_check s season row k) (rw h zero) in
            let clash : ◌≡◌ {A = ℕ} 0 1 = cc in
            absurd (omega arith),
      )

  -- Each outcome of the code is the answer.
  pub refusal_is : {refusal : Refusal} → factor_check s season row k ≡ Err refusal → Err refusal ≡ factor_answer s season row k
  unfolding factor_answer factor_answered
  refusal_is h = rw h

  pub band-is : {b : Band} → factor_check s season row k ≡ Pass → b ≡ band (units_at s season row k) → Ok b ≡ factor_answer s season row k
  unfolding factor_answer factor_answered
  band-is h b = rw (h, b)

  -- and an outcome that is the answer is what is promised
  pub promised : {r : FactorAnswer} → r ≡ factor_answer s season row k → FactorCall s season row k r
  unfolding factor_answer
  promised e = let kept = reply-kept (factor_check s season row k) refl e in record { answer-is = e; says = kept.0; band = kept.1 }
