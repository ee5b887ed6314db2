-- `report_text::report_text` meets its contract: the text of these lines is written whole.
-- Assumes nothing.
use mathlib.Core.Path.{ap, ◌∙◌}
use lib.ListN.{length}
use Rattle.report_text.proofs.SheetText.{reported, text-call}
use Rattle.report_text.proofs.report_text.Goals as goal

pub lines_of-requires : goal.lines_of-requires
lines_of-requires c = reported c.report-check.ensures

pub returns-clause-call : goal.returns-clause-call
returns-clause-call c =
    let lines = c.lines_of.ensures in
    let whole = c.write_whole.ensures in
    text-call c.report-check.ensures (whole.length ∙ ap length lines.text) lines.most (rw lines.text at whole.text)
