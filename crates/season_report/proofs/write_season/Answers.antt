-- `season_report::write_season` meets its contract: words that are 0 get the figures of one season, which become its words; then the sums.
use native.Mathlib.Omega.{arith}
use Rattle.sheet.proofs.Accepted.{accepted}
use Rattle.season_report.proofs.SeasonBlocks.{cleared-fits, block_made}
use Rattle.season_report.proofs.write_season.Goals as goal

pub add_season-requires : goal.add_season-requires
add_season-requires c =
    let sheet = c.args.loaded.now.sheet.sheet in
    let p = c.requires in (
      p.0,
      omega (arith, p.1),
      cleared-fits (record { byte = sheet.are_bytes }) (accepted _ sheet.passed) c.args.j p.0 c.args.words.now _
          (rw c.rows.ensures.0 at c.clear.ensures),
    )

pub returns : goal.returns
returns c =
    let sheet = c.args.loaded.now.sheet.sheet in
    block_made (record { byte = sheet.are_bytes }) (accepted _ sheet.passed) c.args.j c.requires.0 c.args.words.now _ _
    (rw c.rows.ensures.0 at c.clear.ensures) c.add_season.ensures
    c.row_words.new.words _ c.row_words.ensures (omega (arith, c.requires.1)) c.write_sums.ensures
