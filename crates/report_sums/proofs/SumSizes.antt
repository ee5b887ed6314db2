-- How large the sums over the rows can be: they are bounded by the vehicles of all rows, so that a limit on these serves as well as one
-- on each row, and all fit 64 bits.
use Rattle.std.proofs.Common.{ℕ, zero, suc, ◌+◌, ◌*◌, ◌^◌, ◌<◌, ◌≤◌, Bool, true, false, List, arith}
use Rattle.sheet.specs.Limits.{rows_limit, vehicles_limit}
use Rattle.sheet.specs.Bytes.{rows_of, cells_of, season_list, row_at}
use Rattle.sheet.specs.RunningSums.{vehicles_before}
use Rattle.masses.proofs.MassSizes.{vehicle_most, RowSized, word-most}
use Rattle.report_words.specs.Report.{words_of, subtotal, grand_total}
use Rattle.report_words.specs.Categories.{counted, any_class}

-- a word that counts or not
pub counted-most : (b : Bool) {word most : ℕ} → word ≤ most → counted b word ≤ most
unfolding counted
counted-most true h = h
counted-most false h = omega arith

-- a word summed over the rows of a category
pub subtotal-most : (s : List ℕ) (category : ℕ → Bool) (n j : ℕ) → ((i : ℕ) → i < n → RowSized (cells_of s) (season_list s) (row_at s i))
    → subtotal s category n j ≤ vehicle_most * vehicles_before s n
unfolding subtotal words_of vehicles_before
subtotal-most s category zero j r = omega arith
subtotal-most s category (suc n) j r =
    omega (
      arith,
      subtotal-most s category n j (λ i l. r i (omega arith)),
      counted-most (category (row_at s n).class) (word-most (r n (omega arith)) j),
    )

-- the grand total is three of the words for all rows
pub grand-total-most : (s : List ℕ) (j : ℕ) → ((i : ℕ) → i < rows_of s → RowSized (cells_of s) (season_list s) (row_at s i))
    → grand_total s j ≤ 3 * vehicle_most * vehicles_before s (rows_of s)
unfolding grand_total
grand-total-most s j r =
    omega (
      arith,
      subtotal-most s any_class (rows_of s) j r,
      subtotal-most s any_class (rows_of s) (2 + j) r,
      subtotal-most s any_class (rows_of s) (4 + j) r,
    )

-- all sums fit 64 bits with as many vehicles as 32 rows may have
pub sums-fit : {vehicles : ℕ} → vehicles ≤ rows_limit * vehicles_limit → 3 * vehicle_most * vehicles < 2 ^ 64
sums-fit h = omega arith
