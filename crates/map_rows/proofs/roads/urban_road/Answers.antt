-- `map_rows::roads::urban_road` meets its contract.
use Rattle.std.proofs.Common.{◌≡◌, cond}
use Rattle.map_shares.specs.Roads.{urban_road}
use Rattle.map_rows.proofs.roads.urban_road.Goals as goal
use Rattle.map_rows.proofs.roads.urban_road.Goals.{then-t, else-t, then-t-2, else-t-2}

pub returns : goal.returns
unfolding urban_road
returns c =
    let town = c.args.t.travel.town in
    let diurnal : c.if-t.diurnal ≡ cond town 11 0 =
    elim c.if-t.branch [ then-t w ↦ rw w.if-t.true w.diurnal-is | else-t w ↦ rw w.if-t.false w.diurnal-is ] in
    let soak : c.if-t-2.soak ≡ cond town 1 0 =
    elim c.if-t-2.branch [ then-t-2 w ↦ rw w.if-t-2.true w.soak-is | else-t-2 w ↦ rw w.if-t-2.false w.soak-is ] in
    rw (diurnal, soak, c.mileage_part.ensures)
