-- `report_sums::renewal::renew_row` meets its contract: the row's words, then the sums of what the buffer holds.
-- Assumes nothing.
use Rattle.std.proofs.Common.{◌≡◌, ℕ, ◌+◌, ◌-◌, ◌*◌, ◌≤◌, List, length, ap, ◌∙◌, arith, append_assoc}
use borrow.Rule.Slice.PartMut.{put_mid, Post-is}
use lib.Seq.{sets, sets-eq}
use Rattle.report_words.specs.Report.{words_of}
use Rattle.report_sums.specs.Sums.{resummed}
use Rattle.report_sums.specs.Renewed.{renewed}
use Rattle.report_sums.proofs.OneRow.{words-length}
use Rattle.report_sums.proofs.renewal.renew_row.Goals as goal

-- six words in place of those from a place on
stored : (words : List ℕ) (place : ℕ) (six : List ℕ) → length six ≡ 6 → place + 6 ≤ length words
    → put_mid place (place + 6 - place) words six ≡ sets words place six
stored words place six size room =
    let end : place + length six ≡ place + 6 = omega (arith, size) in
    let inside : place + length six ≤ length words = omega (arith, size) in
    let after = Post-is place (place + 6) words (omega arith) in
    rw (sets-eq six words place inside, end, after, append_assoc)

pub returns : goal.returns
unfolding renewed
returns c =
    let x = c.args in
    let six : c.copy_from_slice.new.self ≡ words_of x.sheet.bytes.now x.i = c.copy_from_slice.ensures.after ∙ c.words_of.ensures in
    let size : length (words_of x.sheet.bytes.now x.i) ≡ 6 = words-length x.sheet.bytes.now x.i in
    c.write_sums.ensures ∙ ap (resummed x.sheet.bytes.now) (rw six (stored x.words.now (6 * x.i) (words_of x.sheet.bytes.now x.i) size (omega arith)))
