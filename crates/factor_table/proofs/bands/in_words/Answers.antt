-- `factor_table::bands::in_words` meets its contract.
use borrow.Author.Rules.{rules}
use Rattle.factor_table.proofs.SevenBands.{seven-words}
use Rattle.factor_table.proofs.bands.in_words.Goals as goal

pub returns : goal.returns
returns c = seven-words c.args.bands (search rules)
