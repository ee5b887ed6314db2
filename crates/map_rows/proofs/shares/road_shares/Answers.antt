-- `map_rows::shares::road_shares` meets its contract.
use Rattle.map_shares.specs.Shares.{low_shares, high_shares, road_shares}
use Rattle.map_shares.proofs.Ranges.{shares-in}
use Rattle.map_rows.proofs.shares.road_shares.Goals as goal

pub returns : goal.returns
unfolding road_shares low_shares high_shares
returns c =
    let d = c.span_share-diurnal.ensures in
    let s = c.span_share-soak.ensures in
    let r = c.span_share-running.ensures in
    (rw (d, s, r), rw (d, s, r) (shares-in _ _ c.args.w.within c.requires))
