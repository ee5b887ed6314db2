-- The lines of document 01's example, and of a refusal, computed.
-- Assumes nothing.
use mathlib.Core.Path.{◌≡◌, refl}
use lib.ListN.{replicate}
use Rattle.text.specs.Ascii.{bytes}
use Rattle.text.specs.Decimal.{digits_in, digits}
use Rattle.text.specs.Lines.{field, fields, line, pair_line, head_line, row_line, row_lines, sum_lines, report_lines, refusal_line}

pub zeros-printed : report_lines 1 1 (replicate 32 0)
    ≡ bytes "EVP 1 rows 1\nrow 1 0 0 0 0 0 0\ncars 0 0 0 0 0 0\nlight 0 0 0 0 0 0\ntwo 0 0 0 0 0 0\nall 0 0 0 0 0 0\ntotal 0 0\n"
unfolding report_lines head_line pair_line row_lines row_line sum_lines line fields field digits digits_in
zeros-printed = refl

pub refusal-printed : refusal_line 20 18446744073709551615 ≡ bytes "refused 20 at 18446744073709551615\n"
unfolding refusal_line pair_line digits digits_in
refusal-printed = refl
