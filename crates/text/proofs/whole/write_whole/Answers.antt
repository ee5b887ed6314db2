-- `text::whole::write_whole` meets its contract: the length comes first, and the text where it fits.
-- Assumes nothing.
use mathlib.Core.Path.{sym, ◌∙◌}
use Prim.Native.Nat.{◌≤◌}
use native.Mathlib.Omega.{arith}
use lib.ListN.{length}
use borrow.Author.Rules.{rules}
use Rattle.text.proofs.Printed.{printed-fits, printed-short}
use Rattle.text.proofs.Putting.{place_is, put_front}
use Rattle.text.proofs.whole.write_whole.Goals as goal

pub returns-then-out-length-clause-text : goal.returns-then-out-length-clause-text
returns-then-out-length-clause-text g c =
    let start = c.new-counter.ensures in
    let counted = place_is start.out start.at c.write.ensures c.requires.1 in
    sym (printed-short _ _ (omega (arith, c.if-out-length.true, c.place-length.ensures, counted)))

pub returns-clause-text : goal.returns-clause-text
returns-clause-text g c =
    let start = c.new-writer.ensures in
    let counter = c.new-counter.ensures in
    let counted = place_is counter.out counter.at c.write.ensures c.requires.1 in
    let text = g.T.Lines.text c.args.lines.now in
    let fits : length text ≤ length c.args.out.now = omega (arith, c.if-out-length.false, c.place-length.ensures, counted) in
    search rules ∙ put_front start.out start.at c.write-2.ensures fits ∙ sym (printed-fits text c.args.out.now fits)
