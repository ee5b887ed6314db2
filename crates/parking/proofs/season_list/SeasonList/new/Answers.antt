-- `parking::season_list::SeasonList::new` meets its contract: the first cells are counted.
use Rattle.std.proofs.Common.{◌∙◌, ap, arith, length-set}
use Rattle.std.proofs.lemmas.List.{length-replicate}
use Prim.Native.Nat.{ℕ}
use mathlib.Core.Logic.{inl, inr, ⊎_elim}
use Rattle.numbers.specs.Lists.{at}
use Rattle.bounds.specs.Weights.{apart}
use Rattle.parking.proofs.Counted.{blank-most, set-most, counted-most}
use Rattle.parking.proofs.Listed.{listed_none, listed_past, listed_next, listed-all}
use Rattle.parking.proofs.season_list.SeasonList.new.Goals as goal

pub place_of-place-requires : goal.place_of-place-requires
place_of-place-requires c =
    let l = c.loop-cell in (omega (arith, l.invariant.1.at_most c.mark_of-mark.result), omega (arith, l.invariant.0.counted.few))

-- the sum fits
pub overflow_add-sum : goal.overflow_add-sum
overflow_add-sum c =
    let p = c.place_of-place in
    omega (arith, counted-most c.loop-cell.invariant.0.counted c.args.grid.now.cells.in_range c.loop-cell-test.true p.result)

pub loop-cell-init : goal.loop-cell-init
loop-cell-init c = (listed_none _ _, blank-most 48 575, length-replicate {A = ℕ} 48 0)

-- the cell is passed over
pub loop-cell-preserved-then-rise-eq0 : goal.loop-cell-preserved-then-rise-eq0
loop-cell-preserved-then-rise-eq0 c =
    let i = c.loop-cell.invariant in
    (listed_past i.0 c.loop-cell-test.true (⊎_elim inl (λ h. inr h.1) c.then-rise-eq0.either), i.1, i.2)

-- the cell is counted
pub loop-cell-preserved : goal.loop-cell-preserved
loop-cell-preserved c =
    let l = c.loop-cell in
    let m = c.mark_of-mark in
    let p = c.place_of-place in
    let start = c.apart.ensures.0 ∙ ap apart m.ensures.0 in (
      listed_next l.invariant.0 c.loop-cell-test.true _ _ p.result _ p.ensures.below
          (ap (λ (s : ℕ). record { start = s; rise = at c.args.rises.now l.cell }) start) c.if-rise-eq0.false c.if-count-eq0.false
          p.ensures.at c.max-length.ensures,
      set-most l.last m.result p.result (rw l.invariant.2 m.ensures.1) l.invariant.1 (omega (arith, p.ensures.below)),
      length-set l.last m.result p.result ∙ l.invariant.2,
    )

pub returns : goal.returns
returns c = listed-all c.loop-cell.invariant.0 (omega arith) c.args.grid.now.cells.in_range
