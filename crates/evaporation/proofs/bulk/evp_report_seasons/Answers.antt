-- `evaporation::bulk::evp_report_seasons` meets its contract: what holds of the answer holds of its numbers.
use Rattle.boundary.proofs.BulkNumbers.{seasons-numbers}
use Rattle.evaporation.proofs.bulk.evp_report_seasons.Goals as goal

pub returns : goal.returns
returns c = seasons-numbers c.report_seasons.ensures c.from.ensures
