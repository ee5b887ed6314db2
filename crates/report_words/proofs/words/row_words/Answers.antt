-- `report_words::words::row_words` meets its contract: the six words of each row are in milligrams, and the others as they were.
use Rattle.std.proofs.Common.{sym, ◌∙◌, arith}
use Rattle.report_words.proofs.Filled.{filled-parts}
use Rattle.report_words.proofs.SeasonWords.{row-in-milligrams}
use Rattle.report_words.proofs.words.row_words.Goals as goal

pub returns : goal.returns
returns c =
    let e = c.rows.ensures.0 in
    rw (← e)
    (filled-parts _ c.args.words.now _ c.rows.result (omega (arith, c.requires, e))
    (λ i m there h.
    let made = c.fill_blocks.ensures.blocks i there in
    row-in-milligrams c.args.sheet.bytes.now c.args.words.now i made.argument_is (sym made.left ∙ made.call) m h)
    c.fill_blocks.ensures.rest)
