-- What the program `pool` says of two sheets that it does not pool. Definitions only.
use Rattle.refusals.specs.Rule.{number}
use Rattle.pooling.specs.PoolCall.{PoolAnswer}
use Rattle.std.specs.Prelude.{List, [], ℕ, Ok, Err}
use Rattle.text.specs.Ascii.{bytes}
use Rattle.text.specs.Lines.{pair_line}
use Rattle.pooling.specs.declared.PoolRefusal.TheVariants.{First, Second, Pooled}

-- which sheet is refused, and behind it the line `refused N at P`; of two sheets that are pooled nothing
unfoldable pub refusal_text : PoolAnswer → List ℕ
refusal_text (Ok _) = []
refusal_text (Err (First refusal)) = pair_line (bytes "first sheet: refused ") (number refusal.rule) (bytes " at ") refusal.place
refusal_text (Err (Second refusal)) = pair_line (bytes "second sheet: refused ") (number refusal.rule) (bytes " at ") refusal.place
refusal_text (Err (Pooled refusal)) = pair_line (bytes "pooled sheet: refused ") (number refusal.rule) (bytes " at ") refusal.place

-- the exit status of an answer: 0 a pooled sheet, 1 a refusal
unfoldable pub status_of : PoolAnswer → ℕ
status_of (Ok _) = 0
status_of (Err refusal) = 1
