-- `sheet_factors::grid_sheet::GridSheet::row` meets its contract: the row is there, and its mileage within the limit.
use Rattle.sheet.proofs.Accepted.{accepted}
use Rattle.sheet_factors.proofs.SeasonWork.{mileage-within}
use Rattle.sheet_factors.proofs.grid_sheet.GridSheet.row.Goals as goal

pub kept_of-kept-requires : goal.kept_of-kept-requires
kept_of-kept-requires c = rw c.row-row.ensures.0 (mileage-within (accepted _ c.args.self.now.sheet.passed) c.requires)
