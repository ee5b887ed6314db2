-- `sheet_factors::sheet_rows::rows_kept` meets its contract: the first i rows have theirs.
use Rattle.std.proofs.Common.{◌≡◌, ℕ, ◌<◌, length, get_or}
use Rattle.breakthrough.specs.Loads.{KeptOf}
use Rattle.sheet.specs.Bytes.{row_at}
use Rattle.sheet_factors.proofs.sheet_rows.rows_kept.Given as goal

abbrev pub invariant-loop-i : goal.invariant-loop-i
invariant-loop-i l = record {
  long : length l.out ≡ 1000;
  each : (k : ℕ) → k < l.i → KeptOf (row_at l.sheet.sheet.bytes.now k) (get_or l.out k 0);
}
