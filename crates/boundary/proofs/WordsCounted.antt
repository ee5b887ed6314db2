-- The words of a report, counted from the sheet alone.
-- Assumes nothing.
use Rattle.std.proofs.Common.{Err}
use mathlib.Core.List.{List}
use mathlib.Core.Path.{◌≡◌, refl}
use Prim.Native.Nat.{ℕ, ◌+◌, ◌*◌, ◌≤◌}
use native.Mathlib.Omega.{arith}
use borrow.Author.Tests.{le-ltb}
use Rattle.refusals.specs.declared.Refusal.{Refusal}
use Rattle.refusals.specs.Check.{Pass, refuse, ◌then◌}
use Rattle.sheet.specs.Bytes.{rows_of}
use Rattle.sheet.specs.Sheet.{sheet_check}
use Rattle.sheet.proofs.Accepted.{accepted}
use Rattle.sheet.proofs.Versions.{rows-limit}
use Rattle.report_words.specs.Categories.{report_length}
use Rattle.report_words.proofs.ReportPlaces.{report-length}
use Rattle.inventory.specs.ReportAnswers.{report_check}
use Rattle.inventory.proofs.CallConditions.{report-accepted}
use Rattle.boundary.specs.SheetExport.{words_of, report_words, WordsCounted}

module _ (s : List ℕ) where
  -- a refused sheet has none
  pub none-counted : {refusal : Refusal} → sheet_check s ≡ Err refusal → WordsCounted s 0
  unfolding report_words words_of
  none-counted e = record {
    count-is = rw e refl;
    refused = λ zero pass. clash pass;
    enough = λ room pass h. clash pass;
    least = λ room pass. omega arith;
    most = omega arith;
  }
    where
      clash : {A : Type 0} → sheet_check s ≡ Pass → A
      clash pass = let z : ◌≡◌ {A = ℕ} 0 1 = cc in absurd (omega arith)

  module _ (passed : sheet_check s ≡ Pass) where
    count-is : 6 * rows_of s + 26 ≡ report_words s
    unfolding report_words words_of report_length
    count-is = rw passed (omega (arith, report-length s))

    enough : (room : ℕ) → 6 * rows_of s + 26 ≤ room → report_check s room ≡ Pass
    unfolding report_check refuse ◌then◌ report_length
    enough room h = rw (passed, le-ltb room (6 * rows_of s + 26) h) refl

    least : (room : ℕ) → report_check s room ≡ Pass → 6 * rows_of s + 26 ≤ room
    unfolding report_length
    least room pass = (report-accepted s room pass).1

    -- an accepted one six for each row, and 26
    pub all-counted : {n : ℕ} → n ≡ report_length s → WordsCounted s n
    unfolding report_length
    all-counted e =
        rw e
        (record {
          count-is = count-is;
          refused = λ zero. absurd (omega arith);
          enough = λ room pass h. enough room h;
          least = λ room pass. least room pass;
          most = omega (arith, (accepted s passed).rows-most, rows-limit s);
        })
