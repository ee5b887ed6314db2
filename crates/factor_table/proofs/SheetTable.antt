-- The words of all factors: what fills a season's part of the buffer and all of it, and where each pair stands.
use mathlib.Core.List.{List, ◌++◌, append-nil}
use mathlib.Core.Path.{◌≡◌, refl, sym, ◌∙◌, ap}
use Prim.Native.Nat.{ℕ, ◌+◌, ◌*◌, ◌<◌}
use native.Mathlib.Omega.{arith}
use lib.ListN.{length, drop, drop_of_length-le}
use Rattle.std.specs.Fork.{slice_chunk}
use Rattle.numbers.specs.Lists.{at}
use Rattle.blocks.specs.Blocks.{blocks}
use Rattle.blocks.proofs.Blocks.{blocks-length, blocks_at}
use Rattle.blocks.proofs.Parts.{blocks-made}
use Rattle.refusals.specs.Check.{Pass}
use Rattle.sheet.specs.Bytes.{seasons_of, rows_of}
use Rattle.inventory.specs.ReportCall.{written}
use Rattle.factor_table.specs.RowFactors.{band_words}
use Rattle.factor_table.specs.Factors.{factors_length, season_factors, all_factors, row_start}
use Rattle.factor_table.proofs.SevenBands.{words-length}

-- a season has 14 words for each row
pub season-length : (s : List ℕ) (j : ℕ) → length (season_factors s j) ≡ 14 * rows_of s
unfolding season_factors
season-length s j = blocks-length (band_words s j) 14 (words-length s j) (rows_of s)

-- and all seasons so many
pub all-length : (s : List ℕ) → length (all_factors s) ≡ factors_length s
unfolding all_factors factors_length
all-length s = blocks-length (season_factors s) (14 * rows_of s) (season-length s) (seasons_of s)

-- a buffer of a season's size whose parts are the words of its rows
pub season-filled : (s : List ℕ) (j : ℕ) (words : List ℕ) → ((i : ℕ) → i < rows_of s → slice_chunk words 14 i ≡ band_words s j i)
    → length words ≡ 14 * rows_of s → words ≡ season_factors s j
unfolding season_factors
season-filled s j words rows long =
    blocks-made 14 words (band_words s j) (rows_of s) words rows refl ∙
    ap (λ (r : List ℕ). blocks (band_words s j) (rows_of s) ++ r) (drop_of_length-le words {i = 14 * rows_of s} (omega (arith, long))) ∙ append-nil _

-- a buffer whose parts are the words of the seasons, and beyond them as it was
pub all-filled : (s old words : List ℕ) → ((j : ℕ) → j < seasons_of s → slice_chunk words (14 * rows_of s) j ≡ season_factors s j)
    → drop (seasons_of s * (14 * rows_of s)) words ≡ drop (seasons_of s * (14 * rows_of s)) old → words ≡ written Pass (all_factors s) old
unfolding written all_factors factors_length
all-filled s old words seasons beyond =
    blocks-made (14 * rows_of s) words (season_factors s) (seasons_of s) old seasons beyond ∙
    ap (λ (k : ℕ). blocks (season_factors s) (seasons_of s) ++ drop k old) (sym (all-length s))

-- word m of a season and row
row-at : (s : List ℕ) (season row m : ℕ) → row < rows_of s → m < 14
    → at (season_factors s season) (14 * row + m) ≡ at (band_words s season row) m
unfolding season_factors
row-at s season row m l b = blocks_at (band_words s season) 14 (words-length s season) (rows_of s) row m l b

pub table_at : (s : List ℕ) (season row m : ℕ) → season < seasons_of s → row < rows_of s → m < 14
    → at (all_factors s) (row_start s season row + m) ≡ at (band_words s season row) m
unfolding all_factors
table_at s season row m h l b =
    let place : row_start s season row + m ≡ 14 * rows_of s * season + (14 * row + m) = omega arith in
    rw place (blocks_at (season_factors s) (14 * rows_of s) (season-length s) (seasons_of s) season (14 * row + m) h (omega arith) ∙
    row-at s season row m l b)
