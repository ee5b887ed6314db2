-- The cells that pass the boundary, as the program meets them.
use Rattle.std.proofs.Common.{Option, Some, None, Ok, Err}
use Rattle.refusals.specs.Rule.{number}
use mathlib.Core.Logic.{◌⊎◌, inl, inr}
use mathlib.Core.Path.{◌≡◌, refl}
use mathlib.Core.Bool.{true, false, true≢false}
use Prim.Native.Nat.{ℕ, ◌*◌, ◌<◌}
use native.Mathlib.Omega.{arith}
use lib.Dec.{eqb}
use lib.Ieee.{nan, Float, fin, up, down, eq, inf}
use borrow.Author.Tests.{eq-eqb, lt-ltb}
use Rattle.map_cells.specs.declared.Cell.{Cell}
use Rattle.map_cells.specs.declared.Cell.TheVariants.{Empty, Exact, Band}
use Rattle.map_cells.specs.Sums.{CellAnswer, cell_refusal}
use Rattle.map_cells.specs.Values.{Plus, NoMinus}
use Rattle.map_cells.specs.Promise.{SumPromise}
use Rattle.map_cells.proofs.Promised.{promised}
use Rattle.map_shares.specs.declared.Travel.{Travel}
use Rattle.map_shares.specs.declared.Words.{Words}
use Rattle.map_rows.specs.Promise.{RowCellsPromise}
use Rattle.map_rows.specs.Rows.{RowCellsAnswer, row_cells_answer}
use Rattle.map_rows.proofs.Promised as rows
use Rattle.boundary.specs.declared.EvpCellSum.{EvpCellSum}
use Rattle.map_rows.specs.Kinds.{RowCells}
use Rattle.boundary.specs.declared.EvpCell.{EvpCell}
use Rattle.boundary.specs.declared.EvpRowCells.{EvpRowCells}
use Rattle.boundary.specs.declared.EvpTravel.{EvpTravel}
use Rattle.boundary.specs.Cells.{cell_numbers, no_cell, row_numbers, sum_numbers, exact_handed, cell_handed, handed_sum}
use Rattle.boundary.specs.Cells.{travel_handed, handed_row, RowCellsNone, RowCellsGiven, RowCellsNumbers}
use Rattle.boundary.specs.Cells.{CellSumNumbers}

-- a town that is neither 0 nor 1 tells nothing
town-none : (t : EvpTravel) → 1 < t.town → travel_handed t ≡ None
unfolding travel_handed
town-none t h = rw (lt-ltb 1 t.town h)

-- Over the boundary and back.

-- a double with the sign plus equals itself
plus-same : (m : Float) → Plus m → eq m m ≡ true
unfolding Plus eq
plus-same nan p = elim p [ ]
plus-same (inf _) p = elim p [ ]
plus-same (fin true m e) p = absurd (true≢false p)
plus-same (fin false m e) p = rw (eqb-true-refl (m * up e * down e))
  where
    eqb-true-refl : (n : ℕ) → eqb n n ≡ true
    eqb-true-refl n = eq-eqb n n refl

-- a cell that is given back may be handed in, and is then the same
handed-back : (c : Cell) → NoMinus c → cell_handed (cell_numbers c) ≡ Some c
unfolding cell_handed cell_numbers NoMinus exact_handed
handed-back Empty p = refl
handed-back (Exact m) p = rw (plus-same m p)
handed-back (Band low high) p = refl

-- no cell is none
none-handed : cell_handed no_cell ≡ None
unfolding cell_handed no_cell
none-handed = refl

row-none : (a : RowCellsAnswer) → ¬ ((row_numbers a).number ≡ 0) → RowCellsNone (row_numbers a)
unfolding row_numbers
row-none (Ok v) n = absurd (n refl)
row-none (Err refusal) n = record { urban = none-handed; rural = none-handed; highway = none-handed }

row-given : {w : Words} {t : Travel} (a : RowCellsAnswer) → RowCellsPromise w t a → (v : RowCells) → a ≡ Ok v → RowCellsGiven v (row_numbers a)
unfolding row_numbers
row-given a p v e =
    let q = p.cells v e in
    rw e (record {
      urban = handed-back v.urban q.urban.no_minus;
      rural = handed-back v.rural q.rural.no_minus;
      highway = handed-back v.highway q.highway.no_minus;
    })

handed-row-promise : (w : Words) (t : Option Travel) (x : Travel) → t ≡ Some x → RowCellsPromise w x (handed_row w t)
unfolding handed_row
handed-row-promise w t x e = rw e (rows.promised w x _ refl)

row_back : (w : Words) (t : Option Travel) (v : RowCells) → handed_row w t ≡ Ok v → RowCellsGiven v (row_numbers (handed_row w t))
unfolding handed_row
row_back w (Some x) v e = row-given (row_cells_answer w x) (rows.promised w x _ refl) v e
row_back w None v e = let z : ◌≡◌ {A = ℕ} 0 1 = cc in absurd (omega arith)

untold-numbers : (w : Words) (t : EvpTravel) → 1 < t.town
    → ((row_numbers (handed_row w (travel_handed t))).number ≡ 28) × ((row_numbers (handed_row w (travel_handed t))).place ≡ 0)
unfolding row_numbers handed_row number
untold-numbers w t h = rw (town-none t h) (refl, refl)

pub row-numbers-kept : (w : Words) (t : EvpTravel) {r : EvpRowCells} → r ≡ row_numbers (handed_row w (travel_handed t)) → RowCellsNumbers w t r
row-numbers-kept w t e =
    rw e
    (record {
      answer-is = refl;
      promise = λ x f. handed-row-promise w (travel_handed t) x f;
      no-town = λ h. untold-numbers w t h;
      refused = λ n. row-none (handed_row w (travel_handed t)) n;
      given = λ v f. row_back w (travel_handed t) v f;
    })

handed-promise : (a b : Option Cell) (x y : Cell) → a ≡ Some x → b ≡ Some y → SumPromise x y (handed_sum a b)
unfolding handed_sum
handed-promise a b x y e f = rw (e, f) (promised x y refl)

handed-none : (a b : Option Cell) → (a ≡ None) ⊎ (b ≡ None) → handed_sum a b ≡ Err cell_refusal
unfolding handed_sum
handed-none a b (inl e) = rw e
handed-none (Some x) b (inr e) = rw e
handed-none None b (inr e) = refl

sum-none : (a : CellAnswer) → ¬ ((sum_numbers a).number ≡ 0) → cell_handed (sum_numbers a).cell ≡ None
unfolding sum_numbers
sum-none (Ok c) n = absurd (n refl)
sum-none (Err refusal) n = none-handed

sum_back : (a b : Option Cell) (c : Cell) → handed_sum a b ≡ Ok c → NoMinus c
unfolding handed_sum
sum_back (Some x) (Some y) c e = ((promised x y refl).cell c e).no_minus
sum_back (Some x) None c e = let z : ◌≡◌ {A = ℕ} 0 1 = cc in absurd (omega arith)
sum_back None b c e = let z : ◌≡◌ {A = ℕ} 0 1 = cc in absurd (omega arith)

pub sum-numbers-kept : (a b : EvpCell) {r : EvpCellSum} → r ≡ sum_numbers (handed_sum (cell_handed a) (cell_handed b)) → CellSumNumbers a b r
unfolding sum_numbers number
sum-numbers-kept a b e =
    let s = handed_sum (cell_handed a) (cell_handed b) in
    rw e
    (record {
      answer-is = refl;
      promise = λ x y f g. handed-promise (cell_handed a) (cell_handed b) x y f g;
      none = λ n. rw (handed-none (cell_handed a) (cell_handed b) n) (refl, refl);
      refused = λ n. sum-none s n;
      given = λ c f. let back = handed-back c (sum_back (cell_handed a) (cell_handed b) c f) in rw f back;
    })
