-- `map_rows::shares::row_shares` meets its contract.
use Rattle.map_shares.specs.Shares.{row_shares}
use Rattle.map_shares.proofs.Ranges.{urban-in, rural-in, highway-in}
use Rattle.map_rows.proofs.shares.row_shares.Goals as goal

pub road_shares-requires : goal.road_shares-requires
road_shares-requires c = rw c.urban_road.ensures (urban-in _ c.args.t.within)

pub road_shares-requires-2 : goal.road_shares-requires-2
road_shares-requires-2 c = rw c.rural_road.ensures (rural-in _ c.args.t.within)

pub road_shares-requires-3 : goal.road_shares-requires-3
road_shares-requires-3 c = rw c.highway_road.ensures (highway-in _ c.args.t.within)

pub returns : goal.returns
unfolding row_shares
returns c = (
  cc,
  record {
    urban-in = c.road_shares.ensures.1;
    rural-in = c.road_shares-2.ensures.1;
    highway-in = c.road_shares-3.ensures.1;
  },
)
