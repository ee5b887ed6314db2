-- How the program `pool` ends. Definitions only.
use Rattle.std.specs.Prelude.{true, false, List, ◌≡◌, ℕ, Option, IfSome}
use Rattle.std.specs.Io.KnownBytes.{Keeps}
use Rattle.program.specs.Reads.{Taken, Unread}
use Rattle.program.specs.Writes.{standard_output, standard_error, Written, Unwritten}
use Rattle.program.specs.Printed.{Wrote}
use Rattle.sheet.specs.Limits.{longest}
use Rattle.pooling.specs.Pool.{pool}
use Rattle.pooling.specs.PoolCall.{Accepted, pool_answer}
use Rattle.pool_run.specs.Refusal.{refusal_text, status_of}

-- Two sheets were read, all of each: the first from argument 1, the second from argument 2.
pub record Sheets (a b : List ℕ) : Type 0 where
  pub first-taken : Taken 1 a
  pub second-taken : Taken 2 b

-- The exit status, and what was written: 0 the pooled sheet of the two that were read, 1 their refusal, and 2 where a sheet could not be
-- read, or not all of the answer could be written. There is no other end.
pub data PoolRan : ℕ → Type 0 where
  unread : (i : ℕ) → Unread i → PoolRan 2
  pooled : (a b : List ℕ) → Sheets a b → pool_answer a b longest ≡ Accepted → Written standard_output (pool a b) → PoolRan 0
  refused : (a b : List ℕ) → Sheets a b → status_of (pool_answer a b longest) ≡ 1
      → Written standard_error (refusal_text (pool_answer a b longest)) → PoolRan 1
  pool-stopped : (a b : List ℕ) → Sheets a b → Unwritten standard_output (pool a b) → PoolRan 2
  refusal-stopped : (a b : List ℕ) → Sheets a b → Unwritten standard_error (refusal_text (pool_answer a b longest)) → PoolRan 2

-- After the refusal of two sheets was handed over to a writer: it has more just the refusal, all of it and once, and the exit status is 1; or it
-- has a front of the refusal, and the status is 2.
pub data RefusalPrinted (a b : List ℕ) (old new : Option (List ℕ)) : ℕ → Type 0 where
  refusal-printed : status_of (pool_answer a b longest) ≡ 1 → Wrote old new (refusal_text (pool_answer a b longest)) true
      → RefusalPrinted a b old new 1
  refusal-cut : status_of (pool_answer a b longest) ≡ 1 → Wrote old new (refusal_text (pool_answer a b longest)) false → RefusalPrinted a b old new 2

-- After two sheets were answered, what standard output and standard error have more: the pooled sheet and nothing, with status 0; nothing and
-- the refusal, with status 1, or a front of it, with status 2; a front of the pooled sheet, and that this could not be written, with status 2;
-- or nothing on standard output, and that a sheet could not be read, with status 2.
pub data PoolPrinted (a b : List ℕ) (out out' err err' : Option (List ℕ)) : ℕ → Type 0 where
  pool-printed : pool_answer a b longest ≡ Accepted → Wrote out out' (pool a b) true → Keeps err err' → PoolPrinted a b out out' err err' 0
  pool-cut : pool_answer a b longest ≡ Accepted → Wrote out out' (pool a b) false → PoolPrinted a b out out' err err' 2
  refused-printed : (status : ℕ) → Keeps out out' → RefusalPrinted a b err err' status → PoolPrinted a b out out' err err' status
  none-printed : Keeps out out' → PoolPrinted a b out out' err err' 2

-- After the whole program: so it is of all bytes of both sources.
abbrev pub PoolPrints : Option (List ℕ) → Option (List ℕ) → Option (List ℕ) → Option (List ℕ) → Option (List ℕ) → Option (List ℕ) → ℕ → Type 0
PoolPrints first second out out' err err' status =
    (a : List ℕ) × (b : List ℕ) × IfSome first (λ bytes. a ≡ bytes) × IfSome second (λ bytes. b ≡ bytes)
    × PoolPrinted a b out out' err err' status
