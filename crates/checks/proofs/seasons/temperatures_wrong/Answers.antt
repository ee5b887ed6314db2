-- `checks::seasons::temperatures_wrong` meets its contract: two comparisons of whole numbers are those of document 01.
-- Assumes nothing.
use borrow.Author.Rules.{rules}
use Rattle.sheet.proofs.Degrees.{temperatures-is}
use Rattle.checks.proofs.seasons.temperatures_wrong.Goals as goal

pub returns : goal.returns
returns c = rw (c.warmth-highest.ensures, c.warmth-lowest.ensures) (temperatures-is c.args.season (search rules) (search rules))
