-- What stands in a buffer after a text was to be written whole.
-- Assumes nothing.
use mathlib.Core.List.{List, ◌++◌}
use mathlib.Core.Path.{◌≡◌, sym, ◌∙◌, ap}
use Prim.Native.Nat.{ℕ, ◌≤◌, ◌<◌}
use borrow.Author.Tests.{le-leb, lt-leb}
use lib.ListN.{length, take, drop}
use lib.Seq.{take_at}
use Rattle.text.specs.Whole.{printed}

-- the text fits
pub printed-fits : (text old : List ℕ) → length text ≤ length old → printed text old ≡ text ++ drop (length text) old
unfolding printed
printed-fits text old h = rw (le-leb (length text) (length old) h, printed)

-- it does not
pub printed-short : (text old : List ℕ) → length old < length text → printed text old ≡ old
unfolding printed
printed-short text old h = rw (lt-leb (length text) (length old) h, printed)

-- as many bytes at the front as the text has are the text
pub printed-first : (text old : List ℕ) {r : ℕ} → r ≡ length text → length text ≤ length old → take r (printed text old) ≡ text
printed-first text old {r} e h = ap (take r) (printed-fits text old h) ∙ take_at text (drop (length text) old) r (sym e)
