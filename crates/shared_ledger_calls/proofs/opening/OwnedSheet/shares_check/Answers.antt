-- `shared_ledger_calls::opening::OwnedSheet::shares_check` meets its contract: every row before i has passed, and each holding is of those rows.
-- The answers name the loop and the row, each of its own context.
-- Assumes nothing.
use Rattle.std.proofs.Common.{Err}
use mathlib.Core.Path.{refl, sym, ap, ◌∙◌}
use native.Mathlib.Omega.{arith}
use Rattle.refusals.specs.Check.{each}
use Rattle.sheet.specs.Limits.{vehicles_limit}
use Rattle.sheet.proofs.Accepted.{accepted}
use Rattle.refusals.proofs.Chain.{handed, applied, not_applied, each_none, each_more, each_stops, each_all}
use Rattle.sheet.proofs.Places.{row-there}
use Rattle.shared_ledger_calls.proofs.Tallies.{share-refused, share-passed, share-unowned, owned-range, owner-none, holdings_none, holdings_more}
use Rattle.shared_ledger_calls.proofs.Tallies.{with-row, rows-size, held-size}
use Rattle.shared_ledger_calls.proofs.opening.OwnedSheet.shares_check.Goals as goal

pub loop-i-init : goal.loop-i-init
loop-i-init c = (each_none _, holdings_none _ _ c.default-holdings.ensures)

pub row_place-place-requires : goal.row_place-place-requires
row_place-place-requires c = row-there _ c.args.self.now.sheet.passed (omega (arith, c.rows-i-end.ensures.0))

pub returns-in_err-who : goal.returns-in_err-who
returns-in_err-who c =
    let l = c.loop-i in
    let e = owner-none _ _ (sym c.ok_or.ensures.value ∙ c.in_err-who.was) in
    let unowned = rw e.0 at c.participant_at.ensures in
    handed _ _ c.from_residual.ensures ∙ ap Err e.1 ∙
    sym (each_stops _ l.i _ _ l.invariant.0 (omega arith) (share-refused _ _ l.i (share-unowned _ _ l.i unowned) c.row_place-place.ensures)) ∙
    ap (each _) c.rows-i-end.ensures.0

-- the owner is one of the eight
pub bounds-holdings-who : goal.bounds-holdings-who
bounds-holdings-who c =
    let owner = rw (c.ok_or.ensures.ok_part, c.in_ok-who.was) at c.participant_at.ensures in
    owned-range _ owner.1

pub bounds-holdings-who-in-loop-i : goal.bounds-holdings-who-in-loop-i
bounds-holdings-who-in-loop-i c =
    let owner = rw (c.ok_or.ensures.ok_part, c.in_ok-who.was) at c.participant_at.ensures in
    owned-range _ owner.1

pub offset_bounds-holdings-who : goal.offset_bounds-holdings-who
offset_bounds-holdings-who c =
    let owner = rw (c.ok_or.ensures.ok_part, c.in_ok-who.was) at c.participant_at.ensures in
    record { fits = omega (arith, owned-range _ owner.1) }

pub offset_bounds-holdings-who-in-loop-i : goal.offset_bounds-holdings-who-in-loop-i
offset_bounds-holdings-who-in-loop-i c =
    let owner = rw (c.ok_or.ensures.ok_part, c.in_ok-who.was) at c.participant_at.ensures in
    record { fits = omega (arith, owned-range _ owner.1) }

pub with_row-holding-requires : goal.with_row-holding-requires
with_row-holding-requires c =
    let l = c.loop-i in
    let x = c.args.self.now in
    let owner = rw (c.ok_or.ensures.ok_part, c.in_ok-who.was) at c.participant_at.ensures in
    let who = c.in_ok-who.who in
    let range = owned-range who owner.1 in
    let a = accepted _ x.sheet.passed in
    let rows = c.rows-i-end.ensures.0 in (
      omega (arith, l.invariant.1.rows who range, rows-size x.owners.now who l.i, a.rows-most, rows),
      omega (
        arith,
        l.invariant.1.vehicles who range,
        held-size x.sheet.bytes.now x.owners.now who l.i vehicles_limit (λ j k. (a.row j (omega (arith, rows))).vehicles-most),
        a.rows-most,
        rows,
        c.vehicles.ensures.1,
      ),
    )

pub returns-in_err-refuse : goal.returns-in_err-refuse
returns-in_err-refuse c =
    let l = c.loop-i in
    let owner = rw (c.ok_or.ensures.ok_part, c.in_ok-who.was) at c.participant_at.ensures in
    let next = with-row _ _ l.i l.invariant.1 owner c.with_row-holding.ensures c.vehicles.ensures.0 in
    let e = applied _ _ _ c.refuse.ensures c.in_err-refuse.was in
    handed _ _ c.from_residual-in_err-refuse.ensures ∙ ap Err e.1 ∙
    sym (each_stops _ l.i _ _ l.invariant.0 (omega arith)
    (share-refused _ _ l.i (sym (next.wrong c.is_past.ensures) ∙ e.0) c.row_place-place.ensures)) ∙
    ap (each _) c.rows-i-end.ensures.0

pub loop-i-preserved : goal.loop-i-preserved
loop-i-preserved c =
    let l = c.loop-i in
    let owner = rw (c.ok_or.ensures.ok_part, c.in_ok-who.was) at c.participant_at.ensures in
    let kept = not_applied _ _ _ c.refuse.ensures c.in_ok-refuse.was in
    let next = with-row _ _ l.i l.invariant.1 owner c.with_row-holding.ensures c.vehicles.ensures.0 in (
      each_more _ l.i l.invariant.0 (sym (share-passed _ _ l.i (sym (next.wrong c.is_past.ensures) ∙ kept))) refl,
      holdings_more _ _ l.i l.invariant.1 owner.0 (owned-range _ owner.1) next.rows next.vehicles,
    )

pub returns : goal.returns
returns c =
    let l = c.loop-i in
    each_all _ l.i _ l.invariant.0 (omega arith) (omega arith) ∙ ap (each _) c.rows-i-end.ensures.0
