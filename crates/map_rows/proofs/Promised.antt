-- A row's cells hold its exact shares, and a refusal has its reason.
use Rattle.std.proofs.Common.{Ok, Err}
use mathlib.Core.Logic.{inl, inr}
use mathlib.Core.Path.{◌≡◌, refl, sym, subst}
use mathlib.Core.Bool.{Bool, true, false, ◌||◌}
use Prim.Native.Nat.{ℕ, ◌≤◌}
use native.Mathlib.Omega.{arith}
use Rattle.map_cells.specs.Doubles.{mass_limit}
use Rattle.map_cells.proofs.Enclosed.{in_cell}
use Rattle.map_cells.proofs.Signs.{cell-no-minus}
use Rattle.map_shares.specs.declared.Travel.{Travel}
use Rattle.map_shares.specs.declared.Words.{Words}
use Rattle.map_shares.specs.Kinds.{Road}
use Rattle.map_shares.specs.Demands.{TravelIn, WordsIn}
use Rattle.map_shares.specs.Roads.{urban_road, rural_road, highway_road}
use Rattle.map_shares.specs.Shares.{low_shares, high_shares, total, road_shares, row_shares}
use Rattle.map_shares.specs.Range.{RoadIn}
use Rattle.map_shares.proofs.Ranges.{shares-in, urban-in, rural-in, highway-in}
use Rattle.map_shares.proofs.Enclosure.{sum-above, sum_below}
use Rattle.map_rows.specs.Kinds.{RowCells}
use Rattle.refusals.specs.declared.Rule.{Rule}
use Rattle.refusals.specs.declared.Refusal.{Refusal}
use Rattle.refusals.specs.Rule.{number}
use Rattle.refusals.specs.Check.{number_of, place_of}
use Rattle.map_rows.specs.Rows.{RowCellsAnswer, travel_wrong, words_wrong, over, road_cell, shared_out, row_cells_answer}
use Rattle.map_rows.specs.Promise.{RoomIn, CellPromise, CellsPromise, RowSays, RowCellsPromise}
use Rattle.map_rows.proofs.Demanded.{travel-met, travel-unmet, words-met, words-unmet, room-met, room-unmet}

-- "the sum of a cell's exact shares lies in that cell, and is 0 where the cell is empty"
encloses : (w : Words) (k : Road) → WordsIn w → RoadIn k → total (high_shares w k) ≤ mass_limit → CellPromise w k (road_cell (road_shares w k))
unfolding road_cell road_shares
encloses w k i j room = record {
  holds = λ x h. in_cell (total (low_shares w k)) (total (high_shares w k)) _ order room (sum-above w k j x h) (sum_below w k j x h);
  no_minus = cell-no-minus (total (low_shares w k)) (total (high_shares w k)) order room;
}
  where
    order : total (low_shares w k) ≤ total (high_shares w k)
    order = (shares-in w k i j).order

no_cells : {r : Refusal} (v : RowCells) → ◌≡◌ {A = RowCellsAnswer} (Err r) (Ok v) → ⊥
no_cells v e = let z : ◌≡◌ {A = ℕ} 0 1 = cc in omega arith

module _ (w : Words) (t : Travel) where
  -- the three cells of a row of which nothing is refused
  abbrev given : RowCells
  given = record {
    urban = road_cell (road_shares w (urban_road t));
    rural = road_cell (road_shares w (rural_road t));
    highway = road_cell (road_shares w (highway_road t));
  }

  cells-kept : TravelIn t → WordsIn w → RoomIn (row_shares w t) → CellsPromise w t given
  unfolding row_shares road_shares
  cells-kept i j r = record {
    urban = encloses w (urban_road t) j (urban-in t i) r.urban-room;
    rural = encloses w (rural_road t) j (rural-in t i) r.rural-room;
    highway = encloses w (highway_road t) j (highway-in t i) r.highway-room;
  }

  refusal : {r : Rule} → RowSays w t (number r) 0 → RowCellsPromise w t (Err (record { rule = r; place = 0 }))
  unfolding number_of place_of
  refusal says = record { says = says; cells = λ v e. absurd (no_cells v e) }

  answer : TravelIn t → WordsIn w → RoomIn (row_shares w t) → RowCellsPromise w t (Ok given)
  unfolding number_of place_of
  answer i j r = record {
    says = record { place_is = refl; meaning = inl (refl, i, j, r) };
    cells = λ v e. subst (λ (x : RowCells). CellsPromise w t x) (same v e) (cells-kept i j r);
  }
    where
      same : (v : RowCells) → ◌≡◌ {A = RowCellsAnswer} (Ok given) (Ok v) → given ≡ v
      same v e = cc

  -- what the definition answers keeps the promise
  answer-kept : RowCellsPromise w t (row_cells_answer w t)
  unfolding row_cells_answer shared_out row_shares number
  answer-kept = travel (travel_wrong t) refl
    where
      room : travel_wrong t ≡ false → words_wrong w ≡ false → (c : Bool)
          → (over (road_shares w (urban_road t)) || over (road_shares w (rural_road t)) || over
          (road_shares w (highway_road t))) ≡ c → RowCellsPromise w t (row_cells_answer w t)
      room e f true g =
          rw (e, f, g) (refusal (record {
            place_is = refl;
            meaning = inr (inr (refl, travel-met t e, λ m. room-unmet (row_shares w t) g m.1));
          }))
      room e f false g = rw (e, f, g) (answer (travel-met t e) (words-met w f) (room-met (row_shares w t) g))

      words : travel_wrong t ≡ false → (b : Bool) → words_wrong w ≡ b → RowCellsPromise w t (row_cells_answer w t)
      words e true f = rw (e, f) (refusal (record { place_is = refl; meaning = inr (inr (refl, travel-met t e, λ m. words-unmet w f m.0)) }))
      words e false f = room e f _ refl

      travel : (a : Bool) → travel_wrong t ≡ a → RowCellsPromise w t (row_cells_answer w t)
      travel true e = rw e (refusal (record { place_is = refl; meaning = inr (inl (refl, travel-unmet t e)) }))
      travel false e = words e _ refl

  pub promised : (v : RowCellsAnswer) → v ≡ row_cells_answer w t → RowCellsPromise w t v
  promised v e = subst (λ (a : RowCellsAnswer). RowCellsPromise w t a) (sym e) answer-kept
