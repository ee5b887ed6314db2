-- The report call writes the report, and what is promised of its words holds of the buffer.
-- Assumes nothing.
use mathlib.Core.List.{List, ◌++◌}
use mathlib.Core.Path.{◌≡◌, refl, ap}
use Prim.Native.Nat.{ℕ, ◌+◌, ◌*◌}
use native.Mathlib.Omega.{arith}
use lib.ListN.{length, drop}
use Rattle.numbers.proofs.Lists.{tab-at}
use Rattle.refusals.specs.Check.{Check, Pass}
use Rattle.sheet.specs.Bytes.{rows_of}
use Rattle.sheet.proofs.Accepted.{Bytes, accepted}
use Rattle.report_words.specs.Report.{report}
use Rattle.report_words.specs.Categories.{report_length}
use Rattle.report_words.specs.Years.{filled, report_word}
use Rattle.report_words.proofs.ReportPlaces.{report-length}
use Rattle.report_words.proofs.Promised.{promise}
use Rattle.inventory.specs.ReportCall.{written, ReportCall}
use Rattle.inventory.specs.ReportAnswers.{report_check}
use Rattle.inventory.proofs.CallConditions.{room-says, room-accepted}
use Rattle.inventory.proofs.Written.{written-first}

-- What holds after the call.
pub report-answer : {s old words : List ℕ} {r : Check} → Bytes s → r ≡ report_check s (length old)
    → words ≡ written r (report s) old → ReportCall s old words r
unfolding report_check report_length
report-answer {s} {old} bytes e w =
    record {
      answer-is = e;
      words_are = w;
      says = room-says report_length s (length old) e;
      promise = λ zero.
          let (passed, all) = room-accepted report_length s (report s) old e w zero in
          promise bytes (accepted s passed)
          (record { word = λ k l. rw all (written-first (report s) old k (omega (arith, report-length s))) });
    }

-- words replaced by those of the report
pub report-written : (s old : List ℕ) → filled (report_word s) (6 * rows_of s + 26) old ≡ written Pass (report s) old
unfolding written report_length
report-written s old =
    let long : length (report s) ≡ 6 * rows_of s + 26 = report-length s in
    rw (← long) (ap (λ (r : List ℕ). r ++ drop (length (report s)) old) (tab-at (report s) refl))
