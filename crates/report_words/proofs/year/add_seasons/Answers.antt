-- `report_words::year::add_seasons` meets its contract: the words hold the first j seasons.
-- Assumes nothing.
use native.Mathlib.Omega.{arith}
use Rattle.sheet.proofs.Accepted.{accepted}
use Rattle.report_words.proofs.SeasonWords.{season-fits, season-stored}
use Rattle.report_words.proofs.year.add_seasons.Goals as goal

pub add_season-requires : goal.add_season-requires
add_season-requires c =
    let sheet = c.args.loaded.now.sheet.sheet in
    let l = c.loop-j in
    let fits = season-fits sheet.bytes.now _ l.words l.j l.invariant.1 (record { byte = sheet.are_bytes }) (accepted _ sheet.passed) in
    (omega arith, omega (arith, c.requires.room), fits (omega arith))

pub loop-j-preserved : goal.loop-j-preserved
loop-j-preserved c = (cc, season-stored c.args.loaded.now.sheet.sheet.bytes.now _ _ c.loop-j.j c.loop-j.invariant.1 c.add_season.ensures)
