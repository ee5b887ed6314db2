-- The text of a sheet: what it is made from, how long it is at most, and where it stands.
-- Assumes nothing.
use Rattle.std.proofs.Common.{Err}
use mathlib.Core.List.{List, ◌++◌}
use mathlib.Core.Path.{◌≡◌, refl, sym, ◌∙◌, ap}
use Prim.Native.Nat.{ℕ, ◌+◌, ◌*◌, ◌^◌, ◌≤◌, ◌<◌}
use native.Mathlib.Omega.{arith}
use lib.ListN.{length, take, drop}
use lib.Seq.{take_at}
use Rattle.refusals.specs.Rule.{number}
use Rattle.refusals.specs.declared.Refusal.{Refusal}
use Rattle.refusals.specs.Check.{Check, Pass}
use Rattle.sheet.specs.Versions.{version_of}
use Rattle.sheet.specs.Bytes.{rows_of}
use Rattle.sheet.proofs.Versions.{rows-limit}
use Rattle.sheet.proofs.Accepted.{accepted}
use Rattle.sheet.proofs.Versions.{start_between}
use Rattle.report_words.specs.Report.{report}
use Rattle.report_words.specs.Categories.{report_length}
use Rattle.report_words.proofs.ReportPlaces.{report-length}
use Rattle.inventory.specs.ReportCall.{written, ReportCall}
use Rattle.inventory.specs.ReportAnswers.{report_check}
use Rattle.inventory.proofs.CallConditions.{report-accepted, report-sheet}
use Rattle.inventory.proofs.Written.{written-length}
use Rattle.text.specs.Lines.{report_lines, refusal_line}
use Rattle.text.specs.Whole.{printed}
use Rattle.text.proofs.Printed.{printed-first}
use Rattle.text.proofs.LineSizes.{Words, words-first, report-most, refusal-most}
use Rattle.report_text.specs.Reported.{Reported}
use Rattle.report_text.specs.Text.{text_of, report_text, text_most, TextCall}

-- The lines of an accepted sheet.
module _ {s words : List ℕ} (made : Reported s words) where
  pub head-there : 8 ≤ length s
  head-there = omega (arith, (accepted s made.accepted).length-is, start_between s)

  -- they are made of its version, its rows and the words at the front
  pub lines-made : {version rows : ℕ} → version ≡ version_of s → rows ≡ rows_of s
      → report_lines version rows (take (6 * rows + 26) words) ≡ text_of Pass s
  unfolding text_of report_length
  lines-made v r = rw (v, r) (ap (report_lines (version_of s) (rows_of s)) made.first)

  pub words-there : {rows : ℕ} → rows ≡ rows_of s → 6 * rows + 26 ≤ length words
  unfolding report_length
  words-there r = omega (arith, made.there, r)

  pub lines-most : Words words → length (text_of Pass s) ≤ text_most
  unfolding text_of
  lines-most w =
      let a = accepted s made.accepted in
      let each : Words (report s) = rw (← made.first) (words-first (report_length s) words w) in
      omega (
        arith,
        report-most (version_of s) (rows_of s) (report s) (omega (arith, a.version-most))
            (omega (arith, a.rows-most, rows-limit s)) each,
        a.rows-most,
        rows-limit s,
      )

-- The line of a refusal.
pub refusal_is : (s : List ℕ) (refusal : Refusal) → refusal_line (number refusal.rule) refusal.place ≡ text_of (Err refusal) s
unfolding text_of
refusal_is s refusal = refl

pub refusal-short : (s : List ℕ) (refusal : Refusal) → refusal.place < 2 ^ 64 → length (text_of (Err refusal) s) ≤ text_most
unfolding text_of
refusal-short s refusal p = omega (arith, refusal-most refusal p)

-- What the report call leaves is what the lines are made from.
pub reported : {s old words : List ℕ} {check : Check} → ReportCall s old words check → check ≡ Pass → Reported s words
unfolding written
reported {s} {old} {words} {check} a passed =
    let passes : report_check s (length old) ≡ Pass = sym a.answer-is ∙ passed in
    let there = (report-accepted s (length old) passes).1 in
    let left : words ≡ report s ++ drop (length (report s)) old = a.words_are ∙ ap (λ (c : Check). written c (report s) old) passed in
    record {
      accepted = report-sheet s (length old) passes;
      there = omega (arith, ap length a.words_are, written-length check (report s) old (omega (arith, report-length s)), there);
      first = rw left (take_at (report s) (drop (length (report s)) old) (report_length s) (report-length s));
    }

-- What holds after the call, where the text of these lines was written whole.
pub text-call : {s old words before out : List ℕ} {check : Check} {size : ℕ} → ReportCall s old words check
    → size ≡ length (text_of check s) → length (text_of check s) ≤ text_most → out ≡ printed (text_of check s) before
    → TextCall s old words before out size
unfolding report_text
text-call {s} {old} a size_is most written =
    let text-is : text_of (report_check s (length old)) s ≡ text_of _ s = ap (λ (c : Check). text_of c s) (sym a.answer-is) in
    record {
      reported = rw a.answer-is at a;
      length-is = rw text-is size_is;
      text-is = rw text-is written;
      length_most = omega (arith, size_is, most);
    }

-- In a buffer that is long enough for any text, as many bytes at the front as the call answers are the text.
pub text-first : {s old words before out : List ℕ} {r : ℕ} → TextCall s old words before out r → text_most ≤ length before
    → take r out ≡ report_text s (length old)
text-first {s} {old} {words} {before} {out} {r} a h =
    ap (take r) a.text-is ∙
    printed-first (report_text s (length old)) before a.length-is (omega (arith, a.length-is, a.length_most))
