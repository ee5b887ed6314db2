-- The proof of `number`, which calls itself: n / 10, then the last digit. The measure is the number.
-- Assumes nothing.
use Rattle.text.proofs.writer.Writer.+number.Given as goal

abbrev pub decreases-number : goal.decreases-number
decreases-number l = l.n
