-- `row_factors::rows::SeasonRows::escapes` meets its contract: without canister, each escape is the vapour of a mean rise.
use Rattle.std.proofs.Common.{refl}
use Rattle.sheet.specs.Range.{halves}
use Rattle.factors.proofs.Canister.{has-size}
use Rattle.row_factors.proofs.Escaping.{open-needs, open-right}
use Rattle.row_factors.proofs.rows.SeasonRows.escapes.Goals as goal

pub open_escapes-requires : goal.open_escapes-requires
open_escapes-requires c = open-needs c.args.self.now.ready c.requires c.gain-vapour.ensures.0 c.rises.ensures

pub returns-in-None : goal.returns-in-None
unfolding halves
returns-in-None c =
    open-right c.args.self.now.ready c.requires c.gain-vapour.ensures.0 c.rises.ensures (rw c.in-None.is refl) c.open_escapes.ensures

pub canister_escapes-requires : goal.canister_escapes-requires
canister_escapes-requires c = (c.requires, rw c.in-Some.is (has-size _))
