-- What the call for all seven factors of a season and row answers. Definitions only.
use Rattle.std.specs.Prelude.{List, [], ◌∷◌, ◌≡◌, ℕ, ◌+◌, ◌*◌, ◌-◌, ◌≤◌, slice_index_or, Ok, Err}
use Rattle.refusals.specs.Check.{Answer, Check, number_of, place_of}
use Rattle.sheet.specs.Demands.{Demands, Says}
use Rattle.inventory.specs.declared.Band.{Band}
use Rattle.inventory.specs.FactorAnswers.{band, factor_check, units_at, factor_answer}
use Rattle.inventory.specs.FactorBand.{FactorAnswer, factor_demands, FactorBand}

-- where the low and the high of factor k stand among the words
abbrev pub low_place : ℕ → ℕ
low_place k = 2 * (k - 1)

abbrev pub high_place : ℕ → ℕ
high_place k = 2 * (k - 1) + 1

-- "every check of the sheet first", then number 23 where the season or the row is absent: those of the factor call, whatever the factor
abbrev pub row_check : List ℕ → ℕ → ℕ → Check
row_check s season row = factor_check s season row 1

abbrev pub row_demands : List ℕ → ℕ → ℕ → Demands
row_demands s season row = factor_demands s season row 1

-- the bands of factors 1 to 7 of a season and row
unfoldable pub row_bands : List ℕ → ℕ → ℕ → List Band
row_bands s season row =
    band (units_at s season row 1) ∷
    band (units_at s season row 2) ∷
    band (units_at s season row 3) ∷
    band (units_at s season row 4) ∷
    band (units_at s season row 5) ∷
    band (units_at s season row 6) ∷
    band (units_at s season row 7) ∷ []

-- bands as words, each low before its high
unfoldable pub in_words : List Band → List ℕ
in_words [] = []
in_words (band ∷ bands) = band.low ∷ band.high ∷ in_words bands

-- the low and the high of factors 1 to 7 of a season and row, in micrograms
abbrev pub band_words : List ℕ → ℕ → ℕ → List ℕ
band_words s season row = in_words (row_bands s season row)

-- the band of factor k among them
abbrev pub band_at : List Band → ℕ → Band
band_at bands k = slice_index_or bands (k - 1) (record { low = 0; high = 0 })

-- what the call answers: seven bands, or a refusal, which has none
abbrev pub RowFactors : Type 0
RowFactors = Answer (List Band)

-- the answer, as a function of the bytes and the two numbers
unfoldable pub row_answered : Check → List Band → RowFactors
row_answered (Ok _) bands = Ok bands
row_answered (Err refusal) bands = Err refusal

unfoldable pub row_answer : List ℕ → ℕ → ℕ → RowFactors
row_answer s season row = row_answered (row_check s season row) (row_bands s season row)

-- what this answer says of one factor, as the factor call would say it
unfoldable pub one_of : RowFactors → ℕ → FactorAnswer
one_of (Ok bands) k = Ok (band_at bands k)
one_of (Err refusal) k = Err refusal

-- What holds of the answer: of each factor k from 1 to 7 what the factor call promises, and the same band.
pub record RowFactorsCall (s : List ℕ) (season row : ℕ) (r : RowFactors) : Type 0 where
  pub answer-is : r ≡ row_answer s season row
  pub says : Says (row_demands s season row) (number_of r) (place_of r)
  pub bands : (v : List Band) → r ≡ Ok v → (k : ℕ) → 1 ≤ k → k ≤ 7
      → FactorBand s season row k (band_at v k).low (band_at v k).high
  pub same : (k : ℕ) → 1 ≤ k → k ≤ 7 → one_of r k ≡ factor_answer s season row k
