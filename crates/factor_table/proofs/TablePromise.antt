-- The call for all factors of a sheet: its last check as a demand, and what is promised of the buffer.
use mathlib.Core.List.{List}
use mathlib.Core.Path.{◌≡◌, refl, ◌∙◌}
use Prim.Native.Nat.{ℕ, ◌+◌, ◌*◌, ◌≤◌, ◌<◌}
use native.Mathlib.Nat.{mul-le-mul_left}
use native.Mathlib.Omega.{arith}
use lib.ListN.{length}
use Rattle.numbers.specs.Lists.{at}
use Rattle.refusals.specs.Check.{Check, Pass, number_of}
use Rattle.sheet.specs.Bytes.{seasons_of, rows_of}
use Rattle.sheet.specs.Sheet.{outside, sheet_check}
use Rattle.sheet.proofs.Accepted.{Bytes}
use Rattle.inventory.specs.ReportCall.{written}
use Rattle.inventory.proofs.CallConditions.{factor-there, room-says, room-accepted}
use Rattle.inventory.proofs.Written.{written-first}
use Rattle.factor_table.specs.RowFactors.{row_bands, band_at, band_words, low_place, high_place, row_check}
use Rattle.factor_table.specs.Factors.{factors_length, all_factors, factors_check, row_start, FactorsCall}
use Rattle.factor_table.proofs.SevenBands.{low-word, high-word}
use Rattle.factor_table.proofs.RowPromise.{band-same, band-holds}
use Rattle.factor_table.proofs.SheetTable.{all-length, table_at}

-- an accepted sheet has the factors of each of its seasons and rows
row-passes : (s : List ℕ) (season row : ℕ) → sheet_check s ≡ Pass → season < seasons_of s → row < rows_of s → row_check s season row ≡ Pass
unfolding outside
row-passes s season row h there here = factor-there s season row 1 h there here refl

-- a word of a season and row, in the buffer
word_at : (s old words : List ℕ) (season row m : ℕ) → words ≡ written Pass (all_factors s) old → season < seasons_of s → row < rows_of s → m < 14
    → at words (row_start s season row + m) ≡ at (band_words s season row) m
unfolding factors_length
word_at s old words season row m w there here l =
    let inside : row_start s season row + m < length (all_factors s) =
    omega (arith, all-length s, mul-le-mul_left (14 * rows_of s) there, mul-le-mul_left 14 here) in
    rw w (written-first (all_factors s) old (row_start s season row + m) inside) ∙ table_at s season row m there here l

-- What holds after the call.
pub factors-answer : {s old words : List ℕ} {r : Check} → Bytes s → r ≡ factors_check s (length old)
    → words ≡ written r (all_factors s) old → FactorsCall s old words r
unfolding factors_check
factors-answer {s} {old} {words} {r} bytes e w = record {
  answer-is = e;
  words_are = w;
  says = room-says factors_length s (length old) e;
  bands = λ zero season row k there here least most.
      let (low, high, passed) = pair zero season row k there here least most in
      rw (low, high) (band-holds s season row bytes k least most passed);
  same = λ zero season row k there here least most.
      let (low, high, passed) = pair zero season row k there here least most in
      rw (low, high) (band-same s season row bytes k least most passed);
}
  where
    pair : number_of r ≡ 0 → (season row k : ℕ) → season < seasons_of s → row < rows_of s → 1 ≤ k → k ≤ 7
        → (at words (row_start s season row + low_place k) ≡ (band_at (row_bands s season row) k).low)
        × (at words (row_start s season row + high_place k) ≡ (band_at (row_bands s season row) k).high)
        × (row_check s season row ≡ Pass)
    pair zero season row k there here least most =
        let (passed, all) = room-accepted factors_length s (all_factors s) old e w zero in (
          word_at s old words season row (low_place k) all there here (omega arith) ∙ low-word s season row k,
          word_at s old words season row (high_place k) all there here (omega arith) ∙ high-word s season row k,
          row-passes s season row passed there here,
        )
