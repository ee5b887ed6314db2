-- `sheet_factors::grid_sheet::GridSheet::season` meets its contract: the season of an accepted sheet is in range.
use Rattle.std.proofs.Common.{◌∙◌}
use Rattle.sheet.proofs.Accepted.{Bytes}
use Rattle.sheet_factors.proofs.SeasonWork.{season-of}
use Rattle.sheet_factors.proofs.grid_sheet.GridSheet.season.Goals as goal

pub returns : goal.returns
returns c =
    let sheet = c.args.self.now in
    let bytes : Bytes sheet.sheet.bytes.now = record { byte = sheet.sheet.are_bytes } in
    let e = c.prepare.ensures in
    season-of bytes sheet.sheet.passed (e.0 ∙ c.season.ensures.0) e.1 (rw (← e.0) at e.2) c.requires
