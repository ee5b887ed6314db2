-- `inventory::writing::write_report` meets its contract: the sums of the rows' words are the report's, since no sum passes 64 bits.
-- Assumes nothing.
use mathlib.Core.Path.{◌≡◌, ◌∙◌, ap}
use borrow.Author.Rules.{rules}
use Prim.Native.Nat.{◌+◌, ◌*◌}
use native.Mathlib.Omega.{arith}
use lib.ListN.{length, take}
use Rattle.numbers.specs.Lists.{tab}
use Rattle.sheet.specs.Bytes.{rows_of}
use Rattle.sheet.proofs.Accepted.{Bytes, accepted}
use Rattle.report_words.specs.Categories.{report_length}
use Rattle.report_words.specs.Years.{report_word}
use Rattle.report_words.proofs.Filled.{filled-less, filled-twice}
use Rattle.report_sums.proofs.BufferSums.{resummed-is}
use Rattle.inventory.proofs.ReportPromise.{report-written}
use Rattle.inventory.proofs.writing.write_report.Goals as goal

pub returns : goal.returns
unfolding report_length
returns c =
    let sheet = c.args.sheet in
    let s = sheet.bytes.now in
    let n = 6 * rows_of s in
    let bytes : Bytes s = record { byte = sheet.are_bytes } in
    let words = c.write_rows.new.words in
    let first : take n words ≡ tab (report_word s) n = ap (take n) c.write_rows.ensures ∙ filled-less _ _ n n (omega arith) in
    let kept : length words ≡ length c.args.words.now = search rules in
    filled-twice _ _ c.args.words.now n (n + 26) (omega arith) c.write_rows.ensures
    (c.write_sums.ensures ∙ resummed-is bytes (accepted s sheet.passed) words first (omega (arith, kept, c.requires))) ∙
    report-written s c.args.words.now
