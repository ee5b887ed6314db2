-- `report_sums::renewal::year_of` meets its contract: the figures are those of the first j seasons.
-- Assumes nothing.
use Rattle.std.proofs.Common.{◌∙◌, arith}
use Rattle.numbers.proofs.Lists.{tab-length}
use Rattle.sheet.proofs.Accepted.{Bytes, accepted}
use Rattle.report_sums.proofs.OneRow.{year-none, season-fits, season-more}
use Rattle.report_sums.proofs.renewal.year_of.Goals as goal

pub add_days-requires : goal.add_days-requires
add_days-requires c =
    let l = c.loop-j in
    let sheet = c.args.sheet.now in
    let s = sheet.sheet.bytes.now in
    let bytes : Bytes s = record { byte = sheet.sheet.are_bytes } in
    rw (c.season-days.ensures.0, c.day_of-figures.ensures)
    (rw l.invariant (tab-length _ 6), season-fits s c.args.i l.j l.invariant bytes (accepted s sheet.sheet.passed) c.requires (omega arith))

pub loop-j-preserved : goal.loop-j-preserved
loop-j-preserved c =
    let l = c.loop-j in
    rw (c.season-days.ensures.0, c.day_of-figures.ensures) at c.add_days.ensures ∙
    season-more c.args.sheet.now.sheet.bytes.now c.args.i l.j l.invariant

pub loop-j-init : goal.loop-j-init
loop-j-init c = year-none _ _
