-- Need not be believed: the answer of the report call as the program computes it, a function of the bytes and the buffer's length. What it says of
-- the sheet is in ReportCall.
use Rattle.std.specs.Prelude.{List, ℕ, ltb}
use Rattle.refusals.specs.declared.Rule.TheVariants as rule
use Rattle.refusals.specs.Check.{Check, refuse, ◌then◌}
use Rattle.sheet.specs.Sheet.{sheet_check}
use Rattle.report_words.specs.Categories.{report_length}

-- Call | 22 report buffer short | 0, after every check of the sheet, for a call that stores so many words
abbrev pub room_check : (List ℕ → ℕ) → List ℕ → ℕ → Check
room_check needed s room = sheet_check s then refuse (ltb room (needed s)) rule.Room 0

-- of the report call
unfoldable pub report_check : List ℕ → ℕ → Check
report_check s room = room_check report_length s room
