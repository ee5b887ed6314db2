-- "Its plain machine is the list of the sheet's counts: an arrival adds to the named entry, a departure subtracts, a refused call does
-- nothing." Definitions only.
use Rattle.std.specs.Prelude.{Bool, true, false, ◌&&◌, ◌||◌, List, [], ◌∷◌, ℕ, ◌+◌, ◌-◌, leb, ltb, length, set}
use Rattle.numbers.specs.Lists.{at}
use Rattle.exact.specs.Factors.{total}
use Rattle.sheet.specs.Limits.{vehicles_limit, fleet_limit}
use Rattle.ledger.specs.declared.Call.{Call}
use Rattle.ledger.specs.declared.Call.TheVariants.{Arrival, Departure}

-- the row that a call names, counted from 0
unfoldable pub row_of : Call → ℕ
row_of (Arrival row k) = row
row_of (Departure row k) = row

-- the count v of that row after the call
unfoldable pub moved : ℕ → Call → ℕ
moved v (Arrival row k) = v + k
moved v (Departure row k) = v - k

-- "a departure larger than the count, or an arrival past the limits of checks 16 and 26": the row has v vehicles and all rows have fleet,
-- which is limited only where there may be many rows
unfoldable pub past : Bool → ℕ → ℕ → Call → Bool
past many fleet v (Departure row k) = ltb v k
past many fleet v (Arrival row k) = ltb vehicles_limit (v + k) || (many && ltb fleet_limit (fleet + k))

-- 29 | "no such row, a departure larger than the count, or an arrival past the limits of checks 16 and 26, in this order of conditions"
unfoldable pub wrong : Bool → List ℕ → Call → Bool
wrong many counts call = leb (length counts) (row_of call) || past many (total counts) (at counts (row_of call)) call

-- the named entry after the call
abbrev pub new_count : List ℕ → Call → ℕ
new_count counts call = moved (at counts (row_of call)) call

-- one call
unfoldable pub step : Bool → List ℕ → Call → List ℕ
step many counts call = elim (wrong many counts call) [ true ↦ counts | false ↦ set counts (row_of call) (new_count counts call) ]

-- a list of calls, the first one first
unfoldable pub machine : Bool → List Call → List ℕ → List ℕ
machine many [] counts = counts
machine many (call ∷ calls) counts = machine many calls (step many counts call)
