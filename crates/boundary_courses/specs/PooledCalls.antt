-- Request Twelve for a program in another language: the first bytes of the buffer, as many as `evp_pool` returned, are handed to `evp_report`, as
-- are the two sheets. Definitions only.
use Rattle.std.specs.Prelude.{List, ◌≡◌, ℕ, ◌+◌, ◌*◌, ◌≤◌, length, take}
use Rattle.pooling.specs.Pool.{rows_together}
use Rattle.pooling.specs.PooledCalls.{PooledWords, ExchangedWords}
use Rattle.boundary.specs.declared.EvpCheck.{EvpCheck}
use Rattle.boundary.specs.declared.EvpPool.{EvpPool}
use Rattle.boundary.specs.Export.{ReportNumbers}
use Rattle.boundary.specs.PoolExport.{PoolNumbers}

-- Where `evp_pool` returned number 0 and so many bytes: `evp_report` on these returns number 0 if the buffer has room for the report, and the words
-- are "both sheets' row words and every subtotal is the sum of theirs".
pub record PooledCalls (a b out : List ℕ) (bytes : ℕ) : Type 0 where
  pub accepted : (w both : List ℕ) (r : EvpCheck) → ReportNumbers (take bytes out) w both r → 6 * rows_together a b + 26 ≤ length w → r.number ≡ 0
  pub words : (u first v second w both : List ℕ) (p q r : EvpCheck)
      → ReportNumbers a u first p → ReportNumbers b v second q → ReportNumbers (take bytes out) w both r
      → p.number ≡ 0 → q.number ≡ 0 → r.number ≡ 0
      → PooledWords a b first second both

abbrev pub PoolCallsTheorem : Type 0
PoolCallsTheorem = (a b old out : List ℕ) (answer : EvpPool) → PoolNumbers a b old out answer → answer.number ≡ 0
    → PooledCalls a b out answer.bytes

-- "Pooling those in the other order changes only where rows stand": `evp_pool` returns number 0 too, in a buffer of the same length
pub record OrderCalls (a b out out' : List ℕ) (bytes : ℕ) (answer' : EvpPool) : Type 0 where
  pub accepted : answer'.number ≡ 0
  pub words : (w both w' turned : List ℕ) (r r' : EvpCheck)
      → ReportNumbers (take bytes out) w both r → ReportNumbers (take answer'.bytes out') w' turned r' → r.number ≡ 0 → r'.number ≡ 0
      → ExchangedWords a b both turned

abbrev pub OrderCallsTheorem : Type 0
OrderCallsTheorem = (a b old out old' out' : List ℕ) (answer answer' : EvpPool)
    → PoolNumbers a b old out answer → answer.number ≡ 0 → PoolNumbers b a old' out' answer' → length old' ≡ length old
    → OrderCalls a b out out' answer.bytes answer'
