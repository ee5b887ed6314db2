-- `report_sums::sum_of` meets its contract: the sum is that of the rows passed, in 64 bits.
-- Assumes nothing.
use Rattle.std.proofs.Common.{◌≡◌, ◌%◌, ◌^◌}
use Rattle.report_words.specs.Categories.{category}
use Rattle.report_sums.specs.Numbers.{number}
use Rattle.report_sums.specs.Sums.{buffer_sum}
use Rattle.report_sums.proofs.sum_of.Given as goal

abbrev pub invariant-loop-i : goal.invariant-loop-i
invariant-loop-i l = l.sum ≡ buffer_sum l.sheet.bytes.now l.rows (category (number l.c)) l.i l.j % 2 ^ 64
