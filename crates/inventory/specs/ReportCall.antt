-- What the report call answers and what it leaves in the buffer. Definitions only.
use Rattle.std.specs.Prelude.{List, ◌++◌, ◌≡◌, ℕ, ◌≤◌, length, drop, Ok, Err}
use Rattle.refusals.specs.declared.Rule.TheVariants as rule
use Rattle.refusals.specs.Check.{Check, number_of, place_of}
use Rattle.sheet.specs.Demands.{Demands, demand, ◌next◌, Says, demands}
use Rattle.report_words.specs.Report.{report}
use Rattle.report_words.specs.Categories.{report_length}
use Rattle.report_words.specs.Promise.{ReportPromise}
use Rattle.inventory.specs.ReportAnswers.{report_check}

-- Call | 22 report buffer short | 0, after every check of the sheet
abbrev pub report_demands : List ℕ → ℕ → Demands
report_demands s room = demands s next demand rule.Room 0 (report_length s ≤ room)

-- "The buffer keeps its words, as do words beyond an accepted report."
unfoldable pub written : Check → List ℕ → List ℕ → List ℕ
written (Ok _) new old = new ++ drop (length new) old
written (Err refusal) new old = old

-- What holds after the call, with the words that stood in the buffer before it and those that stand there now.
pub record ReportCall (s old words : List ℕ) (r : Check) : Type 0 where
  pub answer-is : r ≡ report_check s (length old)
  pub words_are : words ≡ written r (report s) old
  pub says : Says (report_demands s (length old)) (number_of r) (place_of r)
  pub promise : number_of r ≡ 0 → ReportPromise s words
