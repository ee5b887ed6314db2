-- "Eight participants and a marker share one ledger. Each row belongs to one participant." Who owns which row, and opening such a ledger.
-- The owners are lent beside the sheet, one byte a row. Definitions only.
use Rattle.std.specs.Prelude.{Bool, ◌||◌, List, ◌≡◌, ℕ, ◌+◌, ◌≤◌, ltb, eqb, length}
use Rattle.numbers.specs.Lists.{at, sum}
use Rattle.refusals.specs.declared.Rule.TheVariants as rule
use Rattle.refusals.specs.Check.{Check, refuse, ◌then◌, each, number_of, place_of}
use Rattle.sheet.specs.Bytes.{rows_of, row_place, row_at}
use Rattle.sheet.specs.Demands.{Demands, demand, ◌next◌, every, Says}
use Rattle.sheet.specs.Sheet.{outside}
use Rattle.report_words.specs.Report.{report}
use Rattle.report_words.specs.Categories.{counted}
use Rattle.report_words.specs.Promise.{ReportPromise}
use Rattle.inventory.specs.ReportCall.{report_demands, written}
use Rattle.inventory.specs.ReportAnswers.{report_check}

-- "Eight participants", 1 to 8; the marker is 0
abbrev pub participants : ℕ
participants = 8

-- "Every participant has at most 100 rows and 10,000,000 vehicles"
abbrev pub rows_each : ℕ
rows_each = 100

abbrev pub vehicles_each : ℕ
vehicles_each = 10000000

-- of the first n rows, how many are theirs
unfoldable pub rows_held : List ℕ → ℕ → ℕ → ℕ
rows_held owners who n = sum (λ (i : ℕ). counted (eqb (at owners i) who) 1) n

-- and how many vehicles those have
unfoldable pub vehicles_held : List ℕ → List ℕ → ℕ → ℕ → ℕ
vehicles_held s owners who n = sum (λ (i : ℕ). counted (eqb (at owners i) who) (row_at s i).vehicles) n

-- "an unowned row or past these limits": row i has no owner, or its owner passes a limit with it
unfoldable pub share_wrong : List ℕ → List ℕ → ℕ → Bool
share_wrong s owners i =
    let who = at owners i in
    outside 1 participants who || ltb rows_each (rows_held owners who (i + 1)) || ltb vehicles_each (vehicles_held s owners who (i + 1))

-- 31 | "an opening with an unowned row or past these limits (at the first such row's record)", "checked last": after every check of the report
unfoldable pub share_check : List ℕ → List ℕ → ℕ → Check
share_check s owners i = refuse (share_wrong s owners i) rule.Share (row_place s i)

unfoldable pub shared_check : List ℕ → List ℕ → ℕ → Check
shared_check s owners room = report_check s room then each (share_check s owners) (rows_of s)

-- the same in plain arithmetic: what is demanded of row i and its owner
pub record Share (s owners : List ℕ) (i : ℕ) : Type 0 where
  pub owner-least : 1 ≤ at owners i
  pub owner-most : at owners i ≤ participants
  pub rows-most : rows_held owners (at owners i) (i + 1) ≤ rows_each
  pub vehicles-most : vehicles_held s owners (at owners i) (i + 1) ≤ vehicles_each

abbrev pub shared_demands : List ℕ → List ℕ → ℕ → Demands
shared_demands s owners room = report_demands s room next every (rows_of s) (λ (i : ℕ). demand rule.Share (row_place s i) (Share s owners i))

-- What holds after an opening, with the words that stood in the buffer before it and those that stand there now.
pub record OpenCall (s owners old words : List ℕ) (r : Check) : Type 0 where
  pub answer-is : r ≡ shared_check s owners (length old)
  pub words_are : words ≡ written r (report s) old
  pub says : Says (shared_demands s owners (length old)) (number_of r) (place_of r)
  pub promise : number_of r ≡ 0 → ReportPromise s words
