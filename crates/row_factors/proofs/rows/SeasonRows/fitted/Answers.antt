-- `row_factors::rows::SeasonRows::fitted` meets its contract: a and 2·b·s of the day are those of the row's canister.
use Rattle.row_factors.proofs.Escaping.{fit_needs, fit-right}
use Rattle.row_factors.proofs.rows.SeasonRows.fitted.Goals as goal

pub fit-requires : goal.fit-requires
fit-requires c = fit_needs c.args.self.now.ready c.requires c.lines_of-lines.ensures c.gain-vapour.ensures.0

pub returns : goal.returns
returns c = fit-right c.args.self.now.ready c.requires c.lines_of-lines.ensures c.gain-vapour.ensures.0 c.fit.ensures
