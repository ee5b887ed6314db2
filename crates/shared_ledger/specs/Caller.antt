-- Who calls a shared ledger, by number. Definitions only.
use Rattle.std.specs.Prelude.{ℕ}
use Rattle.std.specs.Int.NonZero.{non_zero_u64_get}
use Rattle.shared_ledger.specs.declared.Caller.{Caller}
use Rattle.shared_ledger.specs.declared.Caller.TheVariants.{Marker, Participant}

-- the marker is 0, and every participant has another number
unfoldable pub who_of : Caller → ℕ
who_of Marker = 0
who_of (Participant number) = non_zero_u64_get number
