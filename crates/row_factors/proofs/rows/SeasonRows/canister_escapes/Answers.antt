-- `row_factors::rows::SeasonRows::canister_escapes` meets its contract: each mean of what breaks through is the escape of its definition.
-- Both answers begin alike: a lemma for what they share would take more lines than it saves.
use mathlib.Core.Bool.{true, false}
use Rattle.row_factors.proofs.Escaping.{open-shut, list-fits, parking-right, raise-right}
use Rattle.row_factors.proofs.rows.SeasonRows.canister_escapes.Goals as goal

pub returns-in-Car : goal.returns-in-Car
returns-in-Car c =
    let rows = c.args.self.now in
    let d = rows.ready.day-ready.raises-are in
    rw c.in-Car.is (record {
      parking-is =
          parking-right rows.ready c.requires c.fitted-c.ensures rows.grid.now.cells.in_range rows.grid.now.sum_is
          c.parking_through-parking.ensures;
      soak-is = raise-right rows.ready c.requires c.fitted-c.ensures 45 d.raise45-is false c.through_raises.ensures;
      hotsoak-is = raise-right rows.ready c.requires c.fitted-c.ensures 60 d.raise60-is false c.through_raises-in-Car.ensures;
      trip-is = open-shut rows.at.now.season c.args.row.row _ c.args.row.row.canister c.requires.1 _;
      hottrip-is = open-shut rows.at.now.season c.args.row.row _ c.args.row.row.canister c.requires.1 _;
    })

pub returns-in-TwoWheeler : goal.returns-in-TwoWheeler
returns-in-TwoWheeler c =
    let rows = c.args.self.now in
    let d = rows.ready.day-ready.raises-are in
    rw c.in-TwoWheeler.is (record {
      parking-is =
          parking-right rows.ready c.requires c.fitted-c.ensures rows.grid.now.cells.in_range rows.grid.now.sum_is
          c.parking_through-parking.ensures;
      soak-is = raise-right rows.ready c.requires c.fitted-c.ensures 15 d.raise15-is false c.through_raises-in-TwoWheeler.ensures;
      hotsoak-is = raise-right rows.ready c.requires c.fitted-c.ensures 35 d.raise35-is false c.through_raises-in-TwoWheeler-2.ensures;
      trip-is = raise-right rows.ready c.requires c.fitted-c.ensures 10 d.raise10-is true c.through_raises-in-TwoWheeler-3.ensures;
      hottrip-is = raise-right rows.ready c.requires c.fitted-c.ensures 25 d.raise25-is true c.through_raises-in-TwoWheeler-4.ensures;
    })

pub parking_through-parking-requires : goal.parking_through-parking-requires
parking_through-parking-requires c = list-fits c.args.self.now.ready c.requires
