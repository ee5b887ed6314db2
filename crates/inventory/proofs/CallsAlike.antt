-- Sheets that count alike have the same answers: the factor call's, and the report call's with all its words.
-- Assumes nothing.
use Rattle.std.proofs.Common.{Ok, Err}
use mathlib.Core.Bool.{Bool}
use mathlib.Core.List.{List}
use mathlib.Core.Path.{◌≡◌, refl}
use Prim.Native.Nat.{ℕ, suc, zero, ◌+◌, ◌≤◌, ◌<◌}
use native.Mathlib.Omega.{arith}
use Rattle.numbers.proofs.Lists.{tab-ext}
use Rattle.refusals.specs.Check.{Check}
use Rattle.sheet.specs.Bytes.{seasons_of, rows_of}
use Rattle.sheet.proofs.Alike.{Alike}
use Rattle.inventory.specs.FactorAnswers.{factor_check, units_at, factor_answered, factor_answer}
use Rattle.report_words.specs.Report.{words_of, row_words, subtotal, subtotals, grand_total, report}
use Rattle.report_words.specs.Categories.{report_length}
use Rattle.inventory.specs.ReportAnswers.{report_check}
use Rattle.inventory.proofs.CallConditions.{factor-accepted}

module _ {s s' : List ℕ} (a : Alike s s') where
  -- The factor call.

  -- accepted or refused alike
  factor-check-same : (season row k : ℕ) → factor_check s' season row k ≡ factor_check s season row k
  unfolding factor_check
  factor-check-same season row k = cc (a.check-same, a.seasons-same, a.rows_same)

  -- the same computed factor, where there is one
  units-same : (season row k : ℕ) → season < seasons_of s → row < rows_of s → units_at s' season row k ≡ units_at s season row k
  unfolding units_at
  units-same season row k h l = cc (a.cells_same, a.season-same season h, a.row_same row l)

  -- so the same band or refusal
  answered-same : (season row k : ℕ) (c : Check) → factor_check s season row k ≡ c
      → factor_answered c (units_at s' season row k) ≡ factor_answered c (units_at s season row k)
  unfolding factor_answered
  answered-same season row k (Ok _) h =
      let (accepted, season-there, row-there, least, most) = factor-accepted s season row k h in
      cc (units-same season row k season-there row-there)
  answered-same season row k (Err refusal) h = refl

  -- the same answer for every season, row and factor
  pub factor-alike : (season row k : ℕ) → factor_answer s' season row k ≡ factor_answer s season row k
  unfolding factor_answer
  factor-alike season row k = rw (factor-check-same season row k) (answered-same season row k (factor_check s season row k) refl)

  -- The report call.

  -- accepted or refused alike, for every length of the buffer
  pub report-check-alike : (room : ℕ) → report_check s' room ≡ report_check s room
  unfolding report_check report_length
  report-check-alike room = cc (a.check-same, a.rows_same)

  -- the same six words of each row
  words_same : (i : ℕ) → i < rows_of s → words_of s' i ≡ words_of s i
  unfolding words_of
  words_same i l = cc (a.cells_same, a.season-list-same, a.row_same i l)

  -- and of the first n rows
  row_words-same : (n : ℕ) → n ≤ rows_of s → row_words s' n ≡ row_words s n
  unfolding row_words
  row_words-same zero h = refl
  row_words-same (suc n) h = cc (row_words-same n (omega arith), words_same n h)

  -- the same sums
  subtotal-same : (category : ℕ → Bool) (n j : ℕ) → n ≤ rows_of s → subtotal s' category n j ≡ subtotal s category n j
  unfolding subtotal
  subtotal-same category zero j h = refl
  subtotal-same category (suc n) j h = cc (subtotal-same category n j (omega arith), words_same n h, a.row_same n h)

  -- the six of a category
  subtotals-same : (category : ℕ → Bool) → subtotals s' category ≡ subtotals s category
  unfolding subtotals
  subtotals-same category = rw a.rows_same (tab-ext 6 (λ j l. subtotal-same category (rows_of s) j (omega arith)))

  -- the grand total
  grand_total-same : (j : ℕ) → grand_total s' j ≡ grand_total s j
  unfolding grand_total
  grand_total-same j =
      rw (
        a.rows_same,
        subtotal-same _ (rows_of s) j (omega arith),
        subtotal-same _ (rows_of s) (2 + j) (omega arith),
        subtotal-same _ (rows_of s) (4 + j) (omega arith),
      )

  -- all words of the report
  pub report-alike : report s' ≡ report s
  unfolding report
  report-alike =
      simp (a.rows_same, row_words-same (rows_of s) (omega arith), subtotals-same, grand_total-same)
