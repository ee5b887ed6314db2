-- "so the common vehicle limit cannot refuse anyone": in a shared ledger 29 asks about the named row alone.
-- Assumes nothing.
use mathlib.Core.Bool.{Bool, true, false, ◌&&◌, ◌||◌}
use mathlib.Core.List.{List}
use mathlib.Core.Path.{◌≡◌, refl}
use Prim.Native.Nat.{ℕ, ◌+◌, ◌*◌, ◌≤◌, ◌<◌}
use native.Mathlib.Omega.{arith}
use borrow.Author.Tests.{ltb-false, le-ltb, lt-leb}
use lib.Dec.{leb, ltb}
use lib.ListN.{length}
use Rattle.numbers.specs.Lists.{at}
use Rattle.exact.specs.Factors.{total}
use Rattle.sheet.specs.Limits.{vehicles_limit, fleet_limit}
use Rattle.refusals.specs.Check.{Pass}
use Rattle.sheet.specs.Versions.{has_many_rows}
use Rattle.sheet.specs.Bytes.{rows_of, row_at}
use Rattle.sheet.specs.Counts.{counts_of}
use Rattle.ledger.specs.declared.Call.{Call}
use Rattle.ledger.specs.declared.Call.TheVariants.{Arrival, Departure}
use Rattle.ledger.specs.Machine.{row_of, past, wrong}
use Rattle.ledger.proofs.Counts.{counts-length, count_at, total-counts}
use Rattle.shared_ledger.specs.Opening.{vehicles_each, shared_check}
use Rattle.shared_ledger.proofs.Holdings.{fleet-held}

-- what is past the limits of a row with v vehicles, whatever the other rows have
abbrev pub past_row : ℕ → Call → Bool
past_row v call = past false 0 v call

-- a second test that cannot hold where the first does not
or_quiet : (a many b : Bool) → (a ≡ false → b ≡ false) → (a || (many && b)) ≡ (a || (false && false))
or_quiet true many b h = refl
or_quiet false true b h = h refl
or_quiet false false b h = refl

-- 80,000,000 of eight participants and an arrival within the row's limit are below 100,000,000
quiet : (many : Bool) (fleet v : ℕ) (call : Call) → fleet ≤ 8 * vehicles_each → past many fleet v call ≡ past_row v call
unfolding past
quiet many fleet v (Arrival row k) h =
    or_quiet (ltb vehicles_limit (v + k)) many (ltb fleet_limit (fleet + k))
    (λ within. le-ltb fleet_limit (fleet + k) (omega (arith, ltb-false vehicles_limit (v + k) within)))
quiet many fleet v (Departure row k) h = refl

module _ (s owners : List ℕ) (room : ℕ) (h : shared_check s owners room ≡ Pass) where
  -- 29, where the row is there
  pub wrong-is : (call : Call) → row_of call < rows_of s
      → wrong (has_many_rows s) (counts_of s) call ≡ past_row (row_at s (row_of call)).vehicles call
  unfolding wrong
  wrong-is call l =
      let there : leb (length (counts_of s)) (row_of call) ≡ false = lt-leb (length (counts_of s)) (row_of call) (omega (arith, counts-length s)) in
      rw (there, count_at s (row_of call) l)
      (quiet (has_many_rows s) (total (counts_of s)) (row_at s (row_of call)).vehicles call
      (rw (total-counts s) (fleet-held s owners room h)))

  -- the same in plain arithmetic
  pub fleet-quiet : (row k : ℕ) → at (counts_of s) row + k ≤ vehicles_limit → total (counts_of s) + k ≤ fleet_limit
  fleet-quiet row k l = omega (arith, total-counts s, fleet-held s owners room h)
