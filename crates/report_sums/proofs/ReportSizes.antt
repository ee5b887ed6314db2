-- Every word of an accepted report fits 64 bits, and so does every sum on the way to it.
-- Assumes nothing.
use Rattle.std.proofs.Common.{ℕ, ◌^◌, ◌<◌, ◌≤◌, Bool, List, arith}
use Rattle.sheet.specs.Bytes.{rows_of}
use Rattle.sheet.proofs.Fleet.{vehicles-most}
use Rattle.sheet.proofs.Accepted.{Bytes, Accepted}
use Rattle.report_words.specs.Report.{subtotal, grand_total}
use Rattle.report_sums.proofs.SumSizes.{subtotal-most, grand-total-most, sums-fit}
use Rattle.sheet_factors.proofs.AcceptedRange.{row_sized}

module _ {s : List ℕ} (bytes : Bytes s) (a : Accepted s) where
  -- a sum over the first rows
  pub subtotal-fits : (category : ℕ → Bool) (n j : ℕ) → n ≤ rows_of s → subtotal s category n j < 2 ^ 64
  subtotal-fits category n j h =
      omega (arith, subtotal-most s category n j (λ i l. row_sized bytes a (omega arith)), sums-fit (vehicles-most a n h))

  -- the grand total
  pub grand-total-fits : (j : ℕ) → grand_total s j < 2 ^ 64
  grand-total-fits j =
      omega (arith, grand-total-most s j (λ i l. row_sized bytes a l), sums-fit (vehicles-most a (rows_of s) (omega arith)))
