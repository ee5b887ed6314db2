-- `breakthrough::loads::loss_error` meets its contract.
use mathlib.Core.Path.{sym}
use borrow.Author.Rules.{rules}
use Rattle.factors.proofs.Starts.{error-driven, error-written}
use Rattle.breakthrough.proofs.loads.loss_error.Goals as goal

pub returns-then-row-ge-FIRST_KILOMETRES : goal.returns-then-row-ge-FIRST_KILOMETRES
returns-then-row-ge-FIRST_KILOMETRES c = (sym (error-driven _ c.if-row-ge-FIRST_KILOMETRES.true), search rules)

pub returns-else-row-ge-FIRST_KILOMETRES : goal.returns-else-row-ge-FIRST_KILOMETRES
returns-else-row-ge-FIRST_KILOMETRES c = (sym (error-written _ c.if-row-ge-FIRST_KILOMETRES.false), search rules)
