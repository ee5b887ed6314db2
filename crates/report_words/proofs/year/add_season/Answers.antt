-- `report_words::year::add_season` meets its contract: the six words of each row have the season added, and the others are as they were.
use Rattle.std.proofs.Common.{sym, ap, ◌∙◌, arith}
use Rattle.blocks.proofs.Parts.{part-length}
use Rattle.sheet.specs.Bytes.{rows_of, cells_of, season_at, row_at}
use Rattle.masses.proofs.FigureSizes.{figures-are}
use Rattle.report_words.proofs.Filled.{filled-parts}
use Rattle.report_words.proofs.SeasonWords.{row-words, row-sums-fit}
use Rattle.report_words.proofs.year.add_season.Goals as goal

pub each_row-requires-clause-accepts : goal.each_row-requires-clause-accepts
each_row-requires-clause-accepts c = λ i there row units p row-is units-are e.
    let s = c.args.loaded.now.sheet.sheet.bytes.now in
    let old = c.args.words.now in (
      rw e (part-length 6 old i (rows_of s) there (omega (arith, c.requires.1))),
      rw (e, row-is, units-are, c.season-days.ensures.0, figures-are (cells_of s) (season_at s c.args.j) (row_at s i))
          (row-sums-fit s (season_at s c.args.j) old i there c.requires.2),
    )

pub returns : goal.returns
returns c =
    let s = c.args.loaded.now.sheet.sheet.bytes.now in
    let old = c.args.words.now in
    filled-parts _ old _ (rows_of s) (omega (arith, c.requires.1))
    (λ i m there h.
    let made = c.each_row.ensures.rows i there in
    row-words s (season_at s c.args.j) old i made.argument_is (ap (λ z. z.days) c.season-days.ensures.0) (figures-are _ _ _)
    (sym made.left ∙ (rw (made.used-is, made.seven-are) at made.call.2)) m h)
    c.each_row.ensures.rest
