-- Request Twelve over calls: what the pool call left in its buffer is handed to the report call, as are the two sheets, and then "the pooled report
-- has both sheets' row words and every subtotal is the sum of theirs". Definitions only.
use Rattle.std.specs.Prelude.{List, ◌≡◌, ℕ, ◌+◌, ◌*◌, ◌≤◌, ◌<◌, length, take}
use Rattle.numbers.specs.Lists.{at}
use Rattle.refusals.specs.Check.{Check, Pass}
use Rattle.sheet.specs.Bytes.{rows_of}
use Rattle.inventory.specs.ReportCall.{ReportCall}
use Rattle.pooling.specs.Pool.{rows_together}
use Rattle.pooling.specs.PoolCall.{PoolAnswer, Accepted, PoolCall}

-- the bytes that the pool call wrote into this buffer: the first sheet, and 24 for each row of the second
abbrev pub pooled_bytes : List ℕ → List ℕ → List ℕ → List ℕ
pooled_bytes a b out = take (length a + 24 * rows_of b) out

-- "both sheets' row words and every subtotal is the sum of theirs", of the words that three report calls left: on a, on b and on the pool
pub record PooledWords (a b first second both : List ℕ) : Type 0 where
  pub first_rows : (i k : ℕ) → i < rows_of a → k < 6 → at both (6 * i + k) ≡ at first (6 * i + k)
  pub second-rows : (i k : ℕ) → i < rows_of b → k < 6 → at both (6 * (rows_of a + i) + k) ≡ at second (6 * i + k)
  pub sums : (k : ℕ) → k < 26 → at both (6 * rows_together a b + k) ≡ at first (6 * rows_of a + k) + at second (6 * rows_of b + k)

-- Where the pool is accepted, a report call on the bytes that it left passes if the buffer has room for the report, and has these words beside any
-- two report calls on the sheets that pass.
pub record PooledCalls (a b out : List ℕ) : Type 0 where
  pub accepted : (w both : List ℕ) (r : Check) → ReportCall (pooled_bytes a b out) w both r → 6 * rows_together a b + 26 ≤ length w → r ≡ Pass
  pub words : (u first v second w both : List ℕ) → ReportCall a u first Pass → ReportCall b v second Pass
      → ReportCall (pooled_bytes a b out) w both Pass
      → PooledWords a b first second both

abbrev pub PoolCallsTheorem : Type 0
PoolCallsTheorem = (a b old out : List ℕ) (answer : PoolAnswer) → PoolCall a b old out answer → answer ≡ Accepted → PooledCalls a b out

-- "Pooling those in the other order changes only where rows stand": the words that two report calls left, on the pool and on the pool in the other
-- order
pub record ExchangedWords (a b both turned : List ℕ) : Type 0 where
  pub first_rows : (i k : ℕ) → i < rows_of a → k < 6 → at turned (6 * (rows_of b + i) + k) ≡ at both (6 * i + k)
  pub second-rows : (i k : ℕ) → i < rows_of b → k < 6 → at turned (6 * i + k) ≡ at both (6 * (rows_of a + i) + k)
  pub sums : (k : ℕ) → k < 26 → at turned (6 * rows_together a b + k) ≡ at both (6 * rows_together a b + k)

-- the other order is accepted too, in a buffer of the same length
pub record OrderCalls (a b out out' : List ℕ) (answer' : PoolAnswer) : Type 0 where
  pub accepted : answer' ≡ Accepted
  pub words : (w both w' turned : List ℕ) → ReportCall (pooled_bytes a b out) w both Pass → ReportCall (pooled_bytes b a out') w' turned Pass
      → ExchangedWords a b both turned

abbrev pub OrderCallsTheorem : Type 0
OrderCallsTheorem = (a b old out old' out' : List ℕ) (answer answer' : PoolAnswer)
    → PoolCall a b old out answer → answer ≡ Accepted → PoolCall b a old' out' answer' → length old' ≡ length old
    → OrderCalls a b out out' answer'
