-- `report_words::words::write_rows` meets its contract: words that are 0 get the figures of the year, which become those of the report.
-- Assumes nothing.
use Prim.Native.Nat.{◌*◌}
use native.Mathlib.Omega.{arith}
use Rattle.sheet.specs.Bytes.{rows_of}
use Rattle.report_words.proofs.Filled.{filled-twice}
use Rattle.report_words.proofs.SeasonWords.{cleared, year-in-milligrams}
use Rattle.report_words.proofs.words.write_rows.Goals as goal

pub add_year-requires : goal.add_year-requires
add_year-requires c =
    record { room = omega (arith, c.requires); words_are = cleared c.args.sheet.bytes.now c.args.words.now (rw c.rows.ensures.0 at c.clear.ensures) }

pub returns : goal.returns
returns c =
    let n = 6 * rows_of c.args.sheet.bytes.now in
    year-in-milligrams c.args.sheet.bytes.now c.args.words.now
    (filled-twice _ _ _ n n (omega arith) (rw c.rows.ensures.0 at c.clear.ensures) c.add_year.ensures)
    c.row_words.ensures
