-- What the buffer holds after the pool call: the pooled sheet, and beyond it what stood there; after a refusal what stood there.
-- Assumes nothing.
use Rattle.std.proofs.Common.{append_assoc, length-drop}
use Rattle.std.proofs.lemmas.List.{drop-drop, length-append, set-append_left}
use mathlib.Core.List.{List, [], ◌∷◌, ◌++◌}
use mathlib.Core.Path.{◌≡◌, refl, sym, ap, ◌∙◌}
use Prim.Native.Nat.{ℕ, ◌+◌, ◌/◌, ◌%◌, ◌≤◌}
use native.Mathlib.Omega.{arith}
use lib.ListN.{length, take, drop, set, length-set}
use lib.Seq.{sets, sets-eq, length-sets, take-append_seam, drop-append-add}
use Rattle.refusals.specs.Check.{Pass}
use Rattle.sheet.specs.Bytes.{row_place}
use Rattle.inventory.specs.ReportCall.{written}
use Rattle.pooling.specs.Pool.{rows_together, pool, pool_check}
use Rattle.pooling.specs.Late.{Regions}
use Rattle.pooling.specs.PoolCall.{PoolAnswer, Accepted, pool_answer, check_of, PoolCall}
use Rattle.pooling.proofs.PoolAnswers.{answer-check, answer-says, regions, poolable}

-- The first sheet, two bytes of it for the row count of both, and behind it the rows of the second: what a buffer holds then.
module _ (a old rows : List ℕ) (low high : ℕ) (head : 8 ≤ length a) (room : length a + length rows ≤ length old) where
  abbrev rest : List ℕ
  rest = drop (length a) old

  abbrev counted : List ℕ
  counted = sets a 6 (low ∷ high ∷ [])

  sheet-laid : sets old 0 a ≡ a ++ rest
  sheet-laid = let none : 0 + length a ≡ length a = omega arith in rw (sets-eq a old 0 (omega arith), none) refl

  count-laid : sets (a ++ rest) 6 (low ∷ high ∷ []) ≡ counted ++ rest
  count-laid = rw (set-append_left a rest 6 low (omega arith), set-append_left (set a 6 low) rest 7 high (omega (arith, length-set a 6 low))) refl

  long : length counted ≡ length a
  long = length-sets a 6 (low ∷ high ∷ [])

  rows-laid : sets (counted ++ rest) (length a) rows ≡ (counted ++ rows) ++ drop (length (counted ++ rows)) old
  rows-laid =
      let inside : length a + length rows ≤ length (counted ++ rest) = omega (arith, length-append counted rest, long, length-drop (length a) old) in
      let before : take (length a) (counted ++ rest) ≡ counted = rw long at (take-append_seam counted rest) in
      let n = length rows in
      let behind : drop (length a + n) (counted ++ rest) ≡ drop n rest = rw long at (drop-append-add counted rest n) in
      let whole : length (counted ++ rows) ≡ length a + length rows = omega (arith, length-append counted rows, long) in
      sets-eq rows (counted ++ rest) (length a) inside ∙
      rw (before, behind, drop-drop (length rows) (length a) old, whole, append_assoc) refl

  pub laid : sets (sets (sets old 0 a) 6 (low ∷ high ∷ [])) (length a) rows ≡ (counted ++ rows) ++ drop (length (counted ++ rows)) old
  laid = rw (sheet-laid, count-laid) rows-laid

pub pool-laid : (a b old : List ℕ) {count rows out : List ℕ} → 8 ≤ length a → length a + length rows ≤ length old
    → count ≡ rows_together a b % 256 ∷ rows_together a b / 256 ∷ [] → rows ≡ drop (row_place b 0) b
    → out ≡ sets (sets (sets old 0 a) 6 count) (length a) rows → out ≡ written Pass (pool a b) old
unfolding written pool
pool-laid a b old {rows = rows} head room e f h =
    let stored = rw e at h in
    rw (← f) (stored ∙ laid a old rows (rows_together a b % 256) (rows_together a b / 256) head room)

-- what holds after the call
pub pool-reply : {a b old out : List ℕ} {r : PoolAnswer} → r ≡ pool_answer a b (length old)
    → out ≡ written (check_of r) (pool a b) old → PoolCall a b old out r
pool-reply {a} {b} {old} e w =
    let check = ap check_of e ∙ answer-check a b (length old) in
    record { answer-is = e; check-is = check; bytes-are = w ∙ rw check; says = rw e (answer-says a b (length old)) }

-- what is known where the answer is no refusal
pub answer-passes : {a b : List ℕ} {room : ℕ} {r : PoolAnswer} → r ≡ pool_answer a b room → check_of r ≡ Pass → Regions a b
    × (length (pool a b) ≤ room)
answer-passes {a} {b} {room} e h =
    let pass : pool_check a b room ≡ Pass = sym (ap check_of e ∙ answer-check a b room) ∙ h in
    let (first, second) = regions a b room pass in
    (record { first = first; second = second }, (poolable a b room pass).fits)

-- what is known where the pool is accepted: the buffer starts with it
pub record Pools (a b old out : List ℕ) : Type 0 where
  pub passes : pool_check a b (length old) ≡ Pass
  pub regions : Regions a b
  pub fits : length (pool a b) ≤ length old
  pub first : take (length (pool a b)) out ≡ pool a b

pub pools : {a b old out : List ℕ} {r : PoolAnswer} → PoolCall a b old out r → r ≡ Accepted → Pools a b old out
unfolding check_of written
pools {a} {b} {old} reply e =
    let pass : pool_check a b (length old) ≡ Pass = sym reply.check-is ∙ ap check_of e in
    let (regions, fits) = answer-passes reply.answer-is (ap check_of e) in
    record {
      passes = pass;
      regions = regions;
      fits = fits;
      first = ap (take (length (pool a b))) (reply.bytes-are ∙ rw pass) ∙ take-append_seam (pool a b) (drop (length (pool a b)) old);
    }
