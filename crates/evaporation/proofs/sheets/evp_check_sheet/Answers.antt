-- `evaporation::sheets::evp_check_sheet` meets its contract: what holds of the answer holds of its numbers.
-- Assumes nothing.
use mathlib.Core.Path.{◌∙◌, ap}
use Rattle.boundary.specs.Export.{check_numbers}
use Rattle.boundary.proofs.Numbers.{check-is}
use Rattle.evaporation.proofs.sheets.evp_check_sheet.Goals as goal

pub returns : goal.returns
returns c =
    let a = c.check_sheet.ensures in
    let e = c.from.ensures in
    record { answer-is = e ∙ ap check_numbers a.0; says = rw (e ∙ check-is _) a.1 }
