-- What holds of the answers in bulk holds of the numbers that leave the library.
use Rattle.std.proofs.Common.{Ok, Err}
use mathlib.Core.List.{List}
use mathlib.Core.Path.{◌≡◌, refl, sym, ◌∙◌, ap}
use Prim.Native.Nat.{ℕ, ◌-◌, ◌≤◌}
use native.Mathlib.Omega.{arith}
use lib.ListN.{get_or-replicate}
use Rattle.numbers.specs.Lists.{at}
use Rattle.refusals.specs.declared.Refusal.{Refusal}
use Rattle.refusals.specs.Rule.{number}
use Rattle.refusals.proofs.Numbers.{zero-passes}
use Rattle.refusals.specs.Check.{Check, Pass, number_of, place_of}
use Rattle.inventory.specs.declared.Band.{Band}
use Rattle.inventory.specs.FactorBand.{FactorBand}
use Rattle.factor_table.specs.RowFactors.{RowFactors, low_place, high_place, band_at, one_of, RowFactorsCall}
use Rattle.factor_table.specs.Factors.{FactorsCall}
use Rattle.factor_table.proofs.SevenBands.{low_at, high_at}
use Rattle.season_report.specs.Seasons.{SeasonsCall}
use Rattle.boundary.specs.declared.EvpCheck.{EvpCheck}
use Rattle.boundary.specs.declared.EvpRowFactors.{EvpRowFactors}
use Rattle.boundary.specs.Export.{check_numbers, factor_numbers}
use Rattle.boundary.specs.Bulk.{row_factors_numbers, RowFactorsNumbers, FactorsNumbers, SeasonsNumbers}
use Rattle.boundary.proofs.Numbers.{check-is}

-- the number and the place of either outcome
numbers-same : (a : RowFactors) → ((row_factors_numbers a).number ≡ number_of a) × ((row_factors_numbers a).place ≡ place_of a)
unfolding row_factors_numbers number_of place_of
numbers-same (Ok v) = (refl, refl)
numbers-same (Err refusal) = (refl, refl)

-- the numbers of one factor, of either outcome
one-numbers : (a : RowFactors) (k : ℕ) → 1 ≤ k → k ≤ 7 → factor_numbers (one_of a k) ≡ record {
  number = (row_factors_numbers a).number;
  place = (row_factors_numbers a).place;
  low = at (row_factors_numbers a).bands (low_place k);
  high = at (row_factors_numbers a).bands (high_place k);
}
unfolding one_of factor_numbers row_factors_numbers
one-numbers (Ok v) k l m = rw (low_at v (k - 1), high_at v (k - 1)) refl
one-numbers (Err refusal) k l m =
    let low = get_or-replicate {A = ℕ} 14 (low_place k) 0 0 (omega arith) in
    let high = get_or-replicate {A = ℕ} 14 (high_place k) 0 0 (omega arith) in
    rw (low, high) refl

-- a refusal has no number 0
no-zero : (refusal : Refusal) → number refusal.rule ≡ 0 → ⊥
unfolding number_of
no-zero refusal none =
    let passed : ◌≡◌ {A = Check} (Err refusal) Pass = zero-passes (Err refusal) none in
    let clash : ◌≡◌ {A = ℕ} 0 1 = cc in
    omega arith

-- the words of an accepted answer are its bands
bands-held : {s : List ℕ} {season row : ℕ} (a : RowFactors)
    → ((v : List Band) → a ≡ Ok v → (k : ℕ) → 1 ≤ k → k ≤ 7 → FactorBand s season row k (band_at v k).low (band_at v k).high)
    → (row_factors_numbers a).number ≡ 0 → (k : ℕ) → 1 ≤ k → k ≤ 7
    → FactorBand s season row k (at (row_factors_numbers a).bands (low_place k)) (at (row_factors_numbers a).bands (high_place k))
unfolding row_factors_numbers
bands-held (Ok v) h none k l m = rw (low_at v (k - 1), high_at v (k - 1)) (h v refl k l m)
bands-held (Err refusal) h none k l m = absurd (no-zero refusal none)

pub row-factors-numbers : {s : List ℕ} {season row : ℕ} {a : RowFactors} {r : EvpRowFactors} → RowFactorsCall s season row a
    → r ≡ row_factors_numbers a → RowFactorsNumbers s season row r
row-factors-numbers {s} {season} {row} {a} h e =
    let n = numbers-same a in
    record {
      answer-is = e ∙ ap row_factors_numbers h.answer-is;
      says = rw (e, n.0, n.1) h.says;
      bands = rw e (bands-held a h.bands);
      same = λ k l m. rw e (ap factor_numbers (sym (h.same k l m)) ∙ one-numbers a k l m);
    }

pub factors-numbers : {s old words : List ℕ} {c : Check} {r : EvpCheck} → FactorsCall s old words c → r ≡ check_numbers c
    → FactorsNumbers s old words r
factors-numbers a e =
    let n = e ∙ check-is _ in
    record {
      answer-is = e ∙ ap check_numbers a.answer-is;
      words_are = rw a.answer-is at a.words_are;
      says = rw n a.says;
      bands = rw n a.bands;
    }

pub seasons-numbers : {s old words : List ℕ} {c : Check} {r : EvpCheck} → SeasonsCall s old words c → r ≡ check_numbers c
    → SeasonsNumbers s old words r
seasons-numbers a e =
    let n = e ∙ check-is _ in
    record {
      answer-is = e ∙ ap check_numbers a.answer-is;
      words_are = rw a.answer-is at a.words_are;
      says = rw n a.says;
      promise = rw n a.promise;
    }
