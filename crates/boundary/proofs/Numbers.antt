-- The numbers that leave the library are those of the answers' definitions.
use Rattle.std.proofs.Common.{Ok, Err, List, ℕ}
use Rattle.std.specs.Prelude.{replicate, MatchResult}
use Rattle.std.specs.Result.{result_unwrap_or}
use mathlib.Core.Path.{◌≡◌, refl, sym}
use Rattle.refusals.specs.Check.{Answer, Check, number_of, place_of}
use Rattle.inventory.specs.FactorBand.{FactorAnswer, answer_low, answer_high}
use Rattle.shared_ledger.specs.declared.RowRead.{RowRead}
use Rattle.species_report.specs.declared.composition.Composition.{Composition}
use Rattle.factor_table.specs.RowFactors.{RowFactors, in_words}
use Rattle.map_cells.specs.Sums.{CellAnswer}
use Rattle.boundary.specs.declared.EvpCell.{EvpCell}
use Rattle.boundary.specs.Bulk.{row_factors_numbers}
use Rattle.boundary.specs.Cells.{cell_numbers, no_cell, sum_numbers}
use Rattle.boundary.specs.CompositionExport.{composition_numbers}
use Rattle.boundary.specs.Export.{check_numbers, factor_numbers}
use Rattle.boundary.specs.Shared.{zeros, count_told, words_told, words_of_totals, row_numbers, totals_numbers}

pub check-is : (c : Check) → check_numbers c ≡ record { number = number_of c; place = place_of c }
unfolding check_numbers number_of place_of
check-is (Ok _) = refl
check-is (Err refusal) = refl

pub factor-is : (a : FactorAnswer) → factor_numbers a ≡ record {
  number = number_of a;
  place = place_of a;
  low = answer_low a;
  high = answer_high a;
}
unfolding factor_numbers number_of place_of answer_low answer_high
factor-is (Ok band) = refl
factor-is (Err refusal) = refl

-- an answer's number and place, and its value or zeros, are its numbers
pub check_told : (c : Check) → record { number = number_of c; place = place_of c } ≡ check_numbers c
check_told c = sym (check-is c)

pub factor_told : (a : FactorAnswer) → record {
  number = number_of a;
  place = place_of a;
  low = (result_unwrap_or a (record { low = 0; high = 0 })).low;
  high = (result_unwrap_or a (record { low = 0; high = 0 })).high;
} ≡ factor_numbers a
unfolding factor_numbers number_of place_of
factor_told (Ok band) = refl
factor_told (Err refusal) = refl

-- what stands in place of an answer's value, turned or not
pub row_factors_told : (a : RowFactors) (bands : List ℕ) → MatchResult a (λ x. bands ≡ in_words x) (λ _. bands ≡ replicate 14 0) → record {
  number = number_of a;
  place = place_of a;
  bands = bands;
} ≡ row_factors_numbers a
unfolding row_factors_numbers number_of place_of
row_factors_told (Ok x) bands e = rw e refl
row_factors_told (Err refusal) bands e = rw e refl

pub sum_told : (a : CellAnswer) (cell : EvpCell) → MatchResult a (λ x. cell ≡ cell_numbers x) (λ _. cell ≡ no_cell) → record {
  number = number_of a;
  place = place_of a;
  cell = cell;
} ≡ sum_numbers a
unfolding sum_numbers number_of place_of
sum_told (Ok x) cell e = rw e refl
sum_told (Err refusal) cell e = rw e refl

pub row_told : (a : Answer RowRead) → record {
  number = number_of a;
  place = place_of a;
  count = (result_unwrap_or a (record { count = 0; words = zeros 6 })).count;
  words = (result_unwrap_or a (record { count = 0; words = zeros 6 })).words;
} ≡ row_numbers a
unfolding row_numbers count_told words_told
row_told (Ok read) = refl
row_told (Err refusal) = refl

pub totals_told : (a : Answer (List ℕ)) → record {
  number = number_of a;
  place = place_of a;
  words = result_unwrap_or a (zeros 26);
} ≡ totals_numbers a
unfolding totals_numbers words_of_totals
totals_told (Ok words) = refl
totals_told (Err refusal) = refl

pub composition_told : (a : Answer Composition) → record {
  number = number_of a;
  place = place_of a;
  total = (result_unwrap_or a (record { total = 0; milligrams = replicate 29 0 })).total;
  milligrams = (result_unwrap_or a (record { total = 0; milligrams = replicate 29 0 })).milligrams;
} ≡ composition_numbers a
unfolding composition_numbers number_of place_of
composition_told (Ok c) = refl
composition_told (Err refusal) = refl
