-- `report_sums::subtotals` meets its contract: the first k words of the categories are the sums of the rows' words.
use Rattle.std.proofs.Common.{◌≡◌, ℕ, ◌<◌, length, slice_index}
use Rattle.report_sums.specs.Sums.{sum_word}
use Rattle.report_sums.proofs.subtotals.Given as goal

abbrev pub invariant-loop-k : goal.invariant-loop-k
invariant-loop-k l = (length l.sums ≡ 24)
    × ((i : ℕ) → i < l.k → slice_index l.sums i ≡ sum_word l.sheet.bytes.now l.rows i)
