-- A version 3 row with 0 km counts exactly as the same row of version 2.
-- Assumes nothing.
use Rattle.std.proofs.Common.{Ok, Err}
use mathlib.Core.List.{List}
use mathlib.Core.Path.{◌≡◌, refl, sym, ◌∙◌}
use Prim.Native.Nat.{ℕ, ◌+◌, ◌*◌, ◌<◌}
use lib.ListN.{get_or}
use borrow.Author.Tests.{lt-leb}
use Rattle.refusals.specs.Check.{Check, Pass}
use Rattle.sheet.specs.Bytes.{seasons_of, rows_of}
use Rattle.sheet.specs.Sheet.{sheet_check}
use Rattle.sheet.specs.NextVersion.{SameRow}
use Rattle.sheet.proofs.NextVersion.{kept, cells-kept, season-kept, season-list-kept, row_kept, no-mileage}
use Rattle.report_words.specs.Report.{words_of, report}
use Rattle.report_words.proofs.ReportPlaces.{row-word-at}
use Rattle.inventory.specs.FactorAnswers.{factor_check, units_at, factor_answered, factor_answer}
use Rattle.inventory.specs.NextVersion.{RowTheorem}
use Rattle.inventory.proofs.CallConditions.{factor-accepted}

module _ {s t : List ℕ} {i j : ℕ} (same : SameRow s t i j) where
  -- the row's six words
  words_same : words_of t j ≡ words_of s i
  unfolding words_of
  words_same = rw (cells-kept (kept same), season-list-kept (kept same), row_kept same)

  word_same : (k : ℕ) → k < 6 → get_or (report t) (6 * j + k) 0 ≡ get_or (report s) (6 * i + k) 0
  word_same k l =
      row-word-at t j k same.row-of-t l ∙ rw words_same (sym (row-word-at s i k same.row-of-s l))

  -- the factor call: refused alike,
  module _ (hs : sheet_check s ≡ Pass) (ht : sheet_check t ≡ Pass) (season k : ℕ) where
    check-same : factor_check t season j k ≡ factor_check s season i k
    unfolding factor_check
    check-same = rw (hs, ht, same.seasons, lt-leb (rows_of t) j same.row-of-t, lt-leb (rows_of s) i same.row-of-s)

    -- with the same band
    units-same : season < seasons_of s → units_at t season j k ≡ units_at s season i k
    unfolding units_at
    units-same l = rw (cells-kept (kept same), season-kept (kept same) season l, row_kept same)

    answered-same : (c : Check) → factor_check s season i k ≡ c
        → factor_answered c (units_at t season j k) ≡ factor_answered c (units_at s season i k)
    unfolding factor_answered
    answered-same (Ok _) h =
        let (accepted, season-there, row-there, least, most) = factor-accepted s season i k h in
        rw (units-same season-there)
    answered-same (Err refusal) h = refl

    answer-same : factor_answer t season j k ≡ factor_answer s season i k
    unfolding factor_answer
    answer-same = rw check-same (answered-same (factor_check s season i k) refl)

pub same_row : RowTheorem
same_row s t i j same hs ht = record {
  no-mileage = no-mileage same hs;
  factors = λ n season k l. rw (cells-kept (kept same), season-kept (kept same) season l, row_kept same);
  masses = λ n mechanism. rw (cells-kept (kept same), season-list-kept (kept same), row_kept same);
  words = word_same same;
  factor-answers = answer-same same hs ht;
}
