-- The seven bands of a season and row, and their fourteen words.
use mathlib.Core.List.{List, [], ◌∷◌, map}
use mathlib.Core.Path.{◌≡◌, refl, ◌∙◌, ap}
use Prim.Native.Nat.{ℕ, suc, zero, ◌+◌, ◌*◌, ◌-◌, ◌≤◌, ◌<◌}
use native.Mathlib.Omega.{arith}
use lib.ListN.{length, get_or-map, length-map}
use Rattle.std.proofs.Common.{slice_index_or}
use Rattle.std.proofs.lemmas.List.{get_or_default}
use Rattle.numbers.specs.Lists.{at}
use Rattle.row_factors.specs.Seven.{seven_units}
use Rattle.sheet.specs.Bytes.{cells_of, season_at, row_at}
use Rattle.inventory.specs.declared.Band.{Band}
use Rattle.inventory.specs.FactorBand.{numbered}
use Rattle.inventory.specs.FactorAnswers.{band, units_at}
use Rattle.inventory.proofs.Numbered.{unit_at}
use Rattle.factor_table.specs.RowFactors.{row_bands, band_at, in_words, band_words, low_place, high_place}

-- the bands of a season and row are made of its seven factors
pub bands-are : (s : List ℕ) (season row : ℕ) → map band (seven_units (season_at s season) (row_at s row) (cells_of s)) ≡ row_bands s season row
unfolding seven_units units_at numbered row_bands
bands-are s season row = refl

seven : (s : List ℕ) (season row : ℕ) → length (seven_units (season_at s season) (row_at s row) (cells_of s)) ≡ 7
unfolding seven_units
seven s season row = refl

-- the band of factor k is its low and high
pub band-at : (s : List ℕ) (season row k : ℕ) → 1 ≤ k → k ≤ 7 → band_at (row_bands s season row) k ≡ band (units_at s season row k)
band-at s season row k l m =
    let units = seven_units (season_at s season) (row_at s row) (cells_of s) in
    let inside : k - 1 < length (map band units) = rw (length-map units band, seven s season row) (omega arith) in
    rw (← bands-are s season row)
    (get_or_default (map band units) (k - 1) (record { low = 0; high = 0 }) (band 0) inside ∙ get_or-map band units (k - 1) 0 ∙
    ap band (unit_at s season row k l m))

-- where a band's low and high stand among the words
pub low_at : (v : List Band) (i : ℕ) → at (in_words v) (2 * i) ≡ (slice_index_or v i (record { low = 0; high = 0 })).low
unfolding in_words
low_at [] i = refl
low_at (band ∷ bands) zero = refl
low_at (band ∷ bands) (suc i) = let e : 2 * suc i ≡ suc (suc (2 * i)) = omega arith in rw e (low_at bands i)

pub high_at : (v : List Band) (i : ℕ) → at (in_words v) (2 * i + 1) ≡ (slice_index_or v i (record { low = 0; high = 0 })).high
unfolding in_words
high_at [] i = refl
high_at (band ∷ bands) zero = refl
high_at (band ∷ bands) (suc i) = let e : 2 * suc i + 1 ≡ suc (suc (2 * i + 1)) = omega arith in rw e (high_at bands i)

-- band k of those that the code takes apart
abbrev pub taken : List Band → ℕ → Band
taken v k = slice_index_or v k (record { low = 0; high = 0 })

-- seven bands are fourteen words
pub seven-words : (v : List Band) → length v ≡ 7 →
    (taken v 0).low ∷ (taken v 0).high ∷ (taken v 1).low ∷ (taken v 1).high ∷ (taken v 2).low ∷ (taken v 2).high ∷
    (taken v 3).low ∷ (taken v 3).high ∷ (taken v 4).low ∷ (taken v 4).high ∷ (taken v 5).low ∷ (taken v 5).high ∷
    (taken v 6).low ∷ (taken v 6).high ∷ [] ≡ in_words v
unfolding in_words
seven-words (a ∷ b ∷ c ∷ d ∷ e ∷ f ∷ g ∷ []) long = refl
seven-words [] long = absurd (omega arith)
seven-words (a ∷ []) long = absurd (omega arith)
seven-words (a ∷ b ∷ []) long = absurd (omega arith)
seven-words (a ∷ b ∷ c ∷ []) long = absurd (omega arith)
seven-words (a ∷ b ∷ c ∷ d ∷ []) long = absurd (omega arith)
seven-words (a ∷ b ∷ c ∷ d ∷ e ∷ []) long = absurd (omega arith)
seven-words (a ∷ b ∷ c ∷ d ∷ e ∷ f ∷ []) long = absurd (omega arith)
seven-words (a ∷ b ∷ c ∷ d ∷ e ∷ f ∷ g ∷ h ∷ v) long = absurd (omega arith)

-- fourteen words of a season and row
pub words-length : (s : List ℕ) (season row : ℕ) → length (band_words s season row) ≡ 14
unfolding row_bands in_words
words-length s season row = refl

-- the low and the high of factor k
pub low-word : (s : List ℕ) (season row k : ℕ) → at (band_words s season row) (low_place k) ≡ (band_at (row_bands s season row) k).low
low-word s season row k = low_at (row_bands s season row) (k - 1)

pub high-word : (s : List ℕ) (season row k : ℕ) → at (band_words s season row) (high_place k) ≡ (band_at (row_bands s season row) k).high
high-word s season row k = high_at (row_bands s season row) (k - 1)
