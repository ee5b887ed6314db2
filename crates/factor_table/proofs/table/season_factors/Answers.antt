-- `factor_table::table::season_factors` meets its contract: the part of each row has the words of its seven bands, and the parts are all words.
use Rattle.std.proofs.Common.{rules, ◌≡◌, map, sym, ap, ◌∙◌}
use Rattle.sheet_factors.specs.Ready.{units_at}
use Rattle.inventory.specs.FactorAnswers.{band}
use Rattle.factor_table.specs.RowFactors.{in_words}
use Rattle.factor_table.proofs.SevenBands.{bands-are}
use Rattle.factor_table.proofs.SheetTable.{season-filled}
use Rattle.factor_table.proofs.table.season_factors.Goals as goal

pub returns : goal.returns
returns c =
    let s = c.args.loaded.now.sheet.sheet.bytes.now in
    season-filled s c.args.j _
    (λ i h.
    let m = c.each_row.ensures.rows i h in
    let left : m.after_call.now ≡ in_words (map band (units_at s c.args.j i)) = search rules in
    sym m.left ∙ left ∙ ap in_words (bands-are s c.args.j i))
    (search rules)
