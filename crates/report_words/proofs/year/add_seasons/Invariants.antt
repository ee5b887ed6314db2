-- `report_words::year::add_seasons` meets its contract: the words hold the first j seasons.
-- Assumes nothing.
use mathlib.Core.Path.{◌≡◌}
use Prim.Native.Nat.{◌*◌}
use lib.ListN.{length}
use Rattle.sheet.specs.Bytes.{rows_of}
use Rattle.report_words.specs.Years.{year_word, filled}
use Rattle.report_words.proofs.year.add_seasons.Given as goal

abbrev pub invariant-loop-j : goal.invariant-loop-j
invariant-loop-j l = (length l.words ≡ length l.initial.words)
    × (l.words ≡ filled (year_word l.loaded.sheet.sheet.bytes.now l.j) (6 * rows_of l.loaded.sheet.sheet.bytes.now) l.initial.words)
