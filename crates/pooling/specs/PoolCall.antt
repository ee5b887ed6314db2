-- What the pool call answers and what it leaves in the buffer. Definitions only.
use Rattle.std.specs.Prelude.{List, ◌≡◌, ℕ, ◌+◌, ◌<◌, ◌≤◌, length, Result, Ok, Err}
use Rattle.refusals.specs.declared.Rule.TheVariants as rule
use Rattle.refusals.specs.declared.Refusal.{Refusal}
use Rattle.refusals.specs.Rule.{number}
use Rattle.refusals.specs.Check.{Check, Pass}
use Rattle.sheet.specs.Integers.{u8_at}
use Rattle.sheet.specs.Versions.{version_of}
use Rattle.sheet.specs.Bytes.{seasons_of}
use Rattle.sheet.specs.Demands.{Demands, demand, ◌next◌, Met, FirstUnmet, mark_demands, demands}
use Rattle.inventory.specs.ReportCall.{written}
use Rattle.pooling.specs.declared.PoolRefusal.{PoolRefusal}
use Rattle.pooling.specs.declared.PoolRefusal.TheVariants.{First, Second, Pooled}
use Rattle.pooling.specs.Pool.{region_version, pool, region_check, shared_bytes, pair_check, pool_check}

-- what pooling answers: the pool is accepted, or which sheet is refused, and why
abbrev pub PoolAnswer : Type 0
PoolAnswer = Result (Unit {0}) PoolRefusal

abbrev pub Accepted : PoolAnswer
Accepted = Ok tt

-- the first of the three that refuses: the first sheet, the second, or the two together
unfoldable pub pool_answered : Check → Check → Check → PoolAnswer
pool_answered (Err refusal) second together = Err (First refusal)
pool_answered (Ok _) (Err refusal) together = Err (Second refusal)
pool_answered (Ok _) (Ok _) (Err refusal) = Err (Pooled refusal)
pool_answered (Ok _) (Ok _) (Ok _) = Accepted

-- the answer, as a function of the bytes and the room
unfoldable pub pool_answer : List ℕ → List ℕ → ℕ → PoolAnswer
pool_answer a b room = pool_answered (region_check a) (region_check b) (pair_check a b room)

-- "a definition gives this paper's number and values for each of the enum's cases": a refusal's number and place, of whichever sheet
unfoldable pub refusal_of : PoolRefusal → Refusal
refusal_of (First refusal) = refusal
refusal_of (Second refusal) = refusal
refusal_of (Pooled refusal) = refusal

unfoldable pub check_of : PoolAnswer → Check
check_of (Ok _) = Pass
check_of (Err refused) = Err (refusal_of refused)

-- The same checks once more in plain arithmetic: what is demanded of one sheet,
abbrev pub region_demands : List ℕ → Demands
region_demands s = mark_demands s next demand rule.Version 3 (version_of s ≡ region_version) next demands s

-- equal seasons and parking bytes,
abbrev pub Agree : List ℕ → List ℕ → Type 0
Agree a b = (seasons_of a ≡ seasons_of b) × ((k : ℕ) → k < shared_bytes (seasons_of a) → u8_at a (8 + k) ≡ u8_at b (8 + k))

-- and of the two together.
abbrev pub pair_demands : List ℕ → List ℕ → ℕ → Demands
pair_demands a b room = demand rule.Differ 0 (Agree a b) next demands (pool a b) next demand rule.Room 0 (length (pool a b) ≤ room)

-- what an answer says: which demand of which sheet is the first that is not met, and that all before it are
abbrev pub PoolSays : List ℕ → List ℕ → ℕ → PoolAnswer → Type 0
PoolSays a b room (Ok _) = Met (region_demands a) × Met (region_demands b) × Met (pair_demands a b room)
PoolSays a b room (Err (First refusal)) = FirstUnmet (number refusal.rule) refusal.place (region_demands a)
PoolSays a b room (Err (Second refusal)) = Met (region_demands a) × FirstUnmet (number refusal.rule) refusal.place (region_demands b)
PoolSays a b room (Err (Pooled refusal)) =
    Met (region_demands a) × Met (region_demands b) × FirstUnmet (number refusal.rule) refusal.place (pair_demands a b room)

-- What holds after the call, with the bytes that stood in the buffer before it and those that stand there now: "the output buffer is
-- untouched by every refusal", and bytes beyond the pooled sheet are kept.
pub record PoolCall (a b old out : List ℕ) (r : PoolAnswer) : Type 0 where
  pub answer-is : r ≡ pool_answer a b (length old)
  pub check-is : check_of r ≡ pool_check a b (length old)
  pub bytes-are : out ≡ written (pool_check a b (length old)) (pool a b) old
  pub says : PoolSays a b (length old) r
