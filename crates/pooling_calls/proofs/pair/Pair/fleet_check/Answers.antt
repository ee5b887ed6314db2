-- `pooling_calls::pair::Pair::fleet_check` meets its contract: every row before i has passed, and their vehicles are counted.
-- The answers name the loop and its rows, each of its own context.
-- Assumes nothing.
use mathlib.Core.List.{List}
use mathlib.Core.Path.{◌≡◌, refl, sym, ap, ◌∙◌}
use Prim.Native.Nat.{ℕ, ◌+◌}
use native.Mathlib.Omega.{arith}
use Rattle.sheet.specs.Bytes.{rows_of, row_at}
use Rattle.refusals.specs.Check.{each}
use Rattle.sheet.specs.RunningSums.{vehicles_before}
use Rattle.sheet.proofs.Fleet.{vehicles-none, vehicles-more}
use Rattle.refusals.proofs.Chain.{each_none, each_more, each_all, each_stops, handed}
use Rattle.pooling.proofs.PoolBytes.{length_most, rows-most}
use Rattle.pooling.proofs.PoolAnswers.{region}
use Rattle.pooling.proofs.LateSteps.{fleet-is}
use Rattle.pooling_calls.proofs.pair.Pair.fleet_check.Goals as goal

-- the vehicles of the first sheet and of the second up to row i
together : (a b : List ℕ) (i : ℕ) {sum v : ℕ} → sum ≡ vehicles_before a (rows_of a) + vehicles_before b i → v ≡ (row_at b i).vehicles
    → sum + v ≡ vehicles_before a (rows_of a) + vehicles_before b (i + 1)
together a b i before row = omega (arith, vehicles-more b i refl row)

pub returns-in_err-refuse : goal.returns-in_err-refuse
returns-in_err-refuse c =
    let l = c.loop-i in
    let x = c.args.self.now in
    let both = together x.first.bytes.now x.second.bytes.now l.i l.invariant.1 c.vehicles-vehicles.ensures.0 in
    let here = fleet-is x.first.bytes.now x.second.bytes.now l.i (region _ x.regions.first) both refl c.refuse.ensures in
    let refused = handed c.from_residual.result _ c.from_residual.ensures in
    refused ∙ sym (each_stops _ l.i _ _ l.invariant.0 (omega (arith, c.rows-i-end.ensures.0)) (sym here ∙ c.in_err-refuse.was))

pub loop-i-preserved : goal.loop-i-preserved
loop-i-preserved c =
    let l = c.loop-i in
    let x = c.args.self.now in
    let both = together x.first.bytes.now x.second.bytes.now l.i l.invariant.1 c.vehicles-vehicles.ensures.0 in
    let here = fleet-is x.first.bytes.now x.second.bytes.now l.i (region _ x.regions.first) both refl c.refuse.ensures in (
      each_more _ l.i l.invariant.0 here c.in_ok-refuse.was,
      both,
      omega (arith, c.vehicles-vehicles.ensures.1, l.invariant.2),
    )

pub returns : goal.returns
returns c =
    let l = c.loop-i in
    each_all _ l.i _ l.invariant.0 (omega arith) (omega arith) ∙ ap (each _) c.rows-i-end.ensures.0

pub loop-i-init : goal.loop-i-init
loop-i-init c = (each_none _, omega (arith, vehicles-none c.args.self.now.second.bytes.now), omega arith)

pub overflow_add-vehicles : goal.overflow_add-vehicles
overflow_add-vehicles c =
    let r = region _ c.args.self.now.regions.second in
    omega (arith, rows-most r, c.loop-i.invariant.2)

pub overflow_add-place : goal.overflow_add-place
overflow_add-place c =
    let p = c.args.self.now.regions in
    omega (arith, length_most (region _ p.first), rows-most (region _ p.second))
