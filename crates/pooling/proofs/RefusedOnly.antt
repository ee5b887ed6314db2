-- Two sheets that pass are refused only with 32, 5, 26 or 22, and in the other order alike.
-- Assumes nothing.
use mathlib.Core.List.{List}
use mathlib.Core.Logic.{◌⊎◌, inl, inr, ⊎_elim}
use mathlib.Core.Path.{◌≡◌, refl, sym}
use Prim.Native.Nat.{ℕ, suc, zero, ◌+◌, ◌≤◌}
use native.Mathlib.Nat.{le_dest}
use native.Mathlib.Omega.{arith}
use Rattle.refusals.specs.Rule.{number}
use Rattle.refusals.specs.Check.{Pass, ◌then◌}
use Rattle.sheet.specs.Limits.{fleet_limit}
use Rattle.sheet.specs.Bytes.{rows_of}
use Rattle.sheet.specs.RunningSums.{vehicles_before}
use Rattle.sheet.specs.Demands.{FirstUnmet}
use Rattle.sheet.proofs.Checks.{Judges, judges-refuse, judges-then, judges-each, ltb-tests, met-passes, says, ◌⊳◌}
use Rattle.refusals.proofs.Chain.{hands_on}
use Rattle.sheet.proofs.Accepted.{accepted}
use Rattle.sheet.proofs.Fleet.{vehicles-rise}
use Rattle.pooling.specs.Pool.{region_check, pair_check, pool_check}
use Rattle.pooling.specs.PooledReport.{late_demands, left_demands, OnlyTheorem}
use Rattle.pooling.specs.Late.{fleet_check, late_check}
use Rattle.pooling.proofs.PoolBytes.{length-is, exchanged}
use Rattle.pooling.proofs.PoolAnswers.{differ-tests, regions, poolable, late}

-- rows and vehicles
late-judged : (a b : List ℕ) → Judges (late_check a b) (late_demands a b)
unfolding fleet_check late_check
late-judged a b = ltb-tests _ _ ⊳ judges-each (rows_of b) (λ i. judges-refuse (ltb-tests _ _))

-- all that is left
left-judged : (a b : List ℕ) (room : ℕ) → region_check a ≡ Pass → region_check b ≡ Pass → Judges (pool_check a b room) (left_demands a b room)
unfolding pool_check
left-judged a b room p q =
    let left : Judges (pair_check a b room) (left_demands a b room) =
    rw (late a b room p q) (differ-tests a b ⊳ judges-then (late-judged a b) (judges-refuse (ltb-tests _ _))) in
    rw (hands_on (region_check a) (region_check b then pair_check a b room) p, hands_on (region_check b) (pair_check a b room) q) left

-- the numbers of these demands
numbers : (a b : List ℕ) (room n p : ℕ) → FirstUnmet n p (left_demands a b room) → (n ≡ 32) ⊎ ((n ≡ 5) ⊎ ((n ≡ 26) ⊎ (n ≡ 22)))
unfolding number
numbers a b room n p u =
    ⊎_elim (λ e. inl e.0)
    (λ (_, v).
    ⊎_elim (⊎_elim (λ e. inr (inl e.0)) (λ (_, (i, l, before, e)). inr (inr (inl e.0))))
    (λ (_, e). inr (inr (inr e.0))) v) u

pub refused-only : OnlyTheorem
refused-only a b room p q =
    let judged = left-judged a b room p q in
    record {
      says = says (pool_check a b room) judged;
      numbers = λ r place h. numbers a b room (number r) place (judged.refuses r place h);
    }

-- The other order.

-- what passes in one order passes in the other: the sums are the same
pub passes-exchanged : (a b : List ℕ) (room : ℕ) → pool_check a b room ≡ Pass → pool_check b a room ≡ Pass
passes-exchanged a b room h =
    let both = (poolable a b room h).both in
    let (first, second) = regions a b room h in
    let (agree, ((rows, fleet), fits)) = (left-judged a b room first second).passes h in
    let (d, e) = le_dest (accepted b both.second.passed).rows-least in
    let last : suc d ≡ rows_of b = omega arith in
    let all : vehicles_before a (rows_of a) + vehicles_before b (rows_of b) ≤ fleet_limit = rw last at (fleet d (omega arith)) in
    met-passes _ (left-judged b a room second first) (
      (exchanged both).agree,
      (
        (
          omega arith,
          (λ i l.
              let fewer : vehicles_before a (suc i) ≤ vehicles_before a (rows_of a) = vehicles-rise a (suc i) (rows_of a) l in
              omega arith),
        ),
        omega (arith, agree.0, length-is both.first, length-is both.second),
      ),
    )
