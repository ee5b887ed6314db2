-- `season_report::write_seasons` meets its contract: the part of each season is its block, and what lies beyond them is as it was.
use Rattle.std.proofs.Common.{rules, ◌≡◌, ◌∙◌, sym, ◌+◌, ◌*◌, ◌<◌, length, arith}
use native.Mathlib.Nat.{mul_comm}
use Rattle.blocks.proofs.Parts.{part-length}
use Rattle.sheet.specs.Bytes.{seasons_of, rows_of}
use Rattle.report_words.specs.Categories.{report_length}
use Rattle.season_report.specs.Seasons.{season_report}
use Rattle.season_report.proofs.SeasonsPromise.{all-filled}
use Rattle.season_report.proofs.write_seasons.Goals as goal

pub fill_blocks-requires-clause-room : goal.fill_blocks-requires-clause-room
fill_blocks-requires-clause-room c = rw (c.seasons.ensures.0, c.report_length-size.ensures.0) (rw mul_comm at c.requires)

pub fill_blocks-requires-clause-accepts : goal.fill_blocks-requires-clause-accepts
unfolding report_length
fill_blocks-requires-clause-accepts c i h p e =
    let sheet = c.new-loaded.result.sheet.sheet.bytes.now in
    let there : i < seasons_of sheet = rw c.new-loaded.ensures (omega (arith, h, c.seasons.ensures.0)) in
    let whole = part-length c.report_length-size.result c.args.words.now i c.seasons.result h (fill_blocks-requires-clause-room c) in
    let long : length p.now ≡ 6 * rows_of sheet + 26 = rw (e, c.new-loaded.ensures) (whole ∙ c.report_length-size.ensures.0) in
    search rules

pub returns : goal.returns
unfolding report_length
returns c =
    let s = c.args.sheet.bytes.now in
    all-filled s c.args.words.now _
    (λ j h.
    let m = c.fill_blocks.ensures.blocks j (omega (arith, c.seasons.ensures.0)) in
    let left : m.after_call.now ≡ season_report s j = search rules in
    sym (rw c.report_length-size.ensures.0 at m.left) ∙ left)
    (rw (c.seasons.ensures.0, c.report_length-size.ensures.0) at c.fill_blocks.ensures.rest)
