-- The cells of a row as the program makes them.
use Rattle.std.proofs.Common.{Ok, Err}
use mathlib.Core.Path.{◌≡◌, ap, ◌∙◌}
use mathlib.Core.Bool.{Bool, true, false, ◌||◌}
use Rattle.map_cells.specs.Sums.{cell_refusal}
use Rattle.map_cells.specs.Between.{cell_between}
use Rattle.map_cells.proofs.Between.{between_is}
use Rattle.map_shares.specs.declared.Travel.{Travel}
use Rattle.map_shares.specs.declared.Words.{Words}
use Rattle.map_shares.specs.declared.RoadShares.{RoadShares}
use Rattle.map_shares.specs.Kinds.{RowShares}
use Rattle.map_shares.specs.Range.{RowIn}
use Rattle.map_shares.specs.Shares.{total, row_shares}
use Rattle.map_cells.specs.declared.kinds.Limits.{Limits}
use Rattle.map_rows.specs.Kinds.{RowCells}
use Rattle.map_rows.specs.Limits.{Fits, LimitsOf, cells_within}
use Rattle.map_rows.specs.Rows.{RowCellsAnswer, travel_refusal, over, road_cell, shared_out, travel_wrong, words_wrong, row_cells_answer}
use Rattle.map_rows.proofs.Demanded.{room-met}

-- the cell between the doubles of a road kind's sums is its cell
road-cell : (s : RoadShares) → Fits s → {k : Limits} → LimitsOf s k → cell_between k.low k.high ≡ road_cell s
unfolding road_cell
road-cell s h e = rw (e.low-is, e.high_is) (between_is (total s.low) (total s.high) h.order h.room)

pub record AllFit (s : RowShares) : Type 0 where
  pub urban-fits : Fits s.urban
  pub rural-fits : Fits s.rural
  pub highway-fits : Fits s.highway

module _ (s : RowShares) (i : RowIn s) {a b c : Bool} (e : a ≡ over s.urban) (f : b ≡ over s.rural) (g : c ≡ over s.highway) where
  pub out-over : (a || b || c) ≡ true → ◌≡◌ {A = RowCellsAnswer} (Err cell_refusal) (shared_out s)
  unfolding shared_out
  out-over t = let k : (over s.urban || over s.rural || over s.highway) ≡ true = rw (e, f, g) at t in rw k

  module _ (t : (a || b || c) ≡ false) where
    none : (over s.urban || over s.rural || over s.highway) ≡ false
    none = rw (e, f, g) at t

    pub all_fit : AllFit s
    all_fit =
        let room = room-met s none in
        record {
          urban-fits = record { order = i.urban-in.order; room = room.urban-room };
          rural-fits = record { order = i.rural-in.order; room = room.rural-room };
          highway-fits = record { order = i.highway-in.order; room = room.highway-room };
        }

    pub out-cells : {x y z : Limits} (v : RowCells) → LimitsOf s.urban x → LimitsOf s.rural y → LimitsOf s.highway z
        → v ≡ cells_within (record { urban = x; rural = y; highway = z }) → ◌≡◌ {A = RowCellsAnswer} (Ok v) (shared_out s)
    unfolding shared_out cells_within
    out-cells v p q r k =
        let u = road-cell s.urban all_fit.urban-fits p in
        let l = road-cell s.rural all_fit.rural-fits q in
        let h = road-cell s.highway all_fit.highway-fits r in
        rw none (ap Ok (k ∙ rw (u, l, h)))

-- the order of the checks
module _ (w : Words) (t : Travel) where
  pub answer-travel : travel_wrong t ≡ true → ◌≡◌ {A = RowCellsAnswer} (Err travel_refusal) (row_cells_answer w t)
  unfolding row_cells_answer
  answer-travel f = rw f

  pub answer-words : travel_wrong t ≡ false → words_wrong w ≡ true → ◌≡◌ {A = RowCellsAnswer} (Err cell_refusal) (row_cells_answer w t)
  unfolding row_cells_answer
  answer-words f h = rw (f, h)

  pub answer-cells : {s : RowShares} (v : RowCellsAnswer) → travel_wrong t ≡ false → words_wrong w ≡ false
      → s ≡ row_shares w t → v ≡ shared_out s → v ≡ row_cells_answer w t
  unfolding row_cells_answer
  answer-cells v f g i k = rw (f, g, ← i) k
