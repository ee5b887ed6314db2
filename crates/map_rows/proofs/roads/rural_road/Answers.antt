-- `map_rows::roads::rural_road` meets its contract.
use Rattle.std.proofs.Common.{◌≡◌, cond}
use Rattle.map_shares.specs.Roads.{rural_road}
use Rattle.map_rows.proofs.roads.rural_road.Goals as goal
use Rattle.map_rows.proofs.roads.rural_road.Goals.{then-t, else-t}

pub returns : goal.returns
unfolding rural_road
returns c =
    let soak : c.if-t.soak ≡ cond c.args.t.travel.town 0 1 =
    elim c.if-t.branch [ then-t w ↦ rw w.if-t.true w.soak-is | else-t w ↦ rw w.if-t.false w.soak-is ] in
    rw (soak, c.rest_part.ensures, c.rural_time.ensures.0, c.mileage_part.ensures)
