-- The refusals of two sheets: their lines, and how the program ends with one.
-- Assumes nothing.
use Rattle.std.proofs.Common.{◌≡◌, ◌∙◌, ℕ, ◌^◌, ◌≤◌, ◌<◌, List, length, take, drop, Err, refl, arith}
use Rattle.std.proofs.Math.Seq.{take-append_seam}
use Rattle.program.specs.Reads.{Taken}
use Rattle.program.specs.Writes.{standard_output, standard_error, AnswerWritten, all-written, part-written}
use Rattle.text.specs.Ascii.{bytes}
use Rattle.text.specs.Lines.{pair_line}
use Rattle.text.specs.declared.writer.Writer.{Writer}
use Rattle.text.specs.Put.{Put}
use Rattle.text.proofs.Putting.{place_is, put_front}
use Rattle.text.proofs.LineSizes.{pair-most}
use Rattle.sheet.specs.Limits.{longest}
use Rattle.pooling.specs.declared.PoolRefusal.{PoolRefusal}
use Rattle.pooling.specs.Pool.{pool}
use Rattle.pooling.specs.PoolCall.{PoolAnswer, Accepted, pool_answer}
use Rattle.pool_run.specs.Refusal.{refusal_text, status_of}
use Rattle.pool_run.specs.Ran.{Sheets, PoolRan, pooled, refused, pool-stopped, refusal-stopped}

-- The line of a refusal: behind a text of at most 22 bytes it has at most 67.
module _ (front : List ℕ) (number place : ℕ) (h : length front ≤ 22) (n : number < 2 ^ 64) (p : place < 2 ^ 64) where
  pub line-most : length (pair_line front number (bytes " at ") place) ≤ 67
  line-most = omega (arith, pair-most front number (bytes " at ") place n p)

-- It stands at the front of the buffer.
pub stands : {line text text' : List ℕ} {old new : Writer} → old.out.now ≡ line → old.at ≡ 0 → Put old text new → text ≡ text'
    → length text ≤ 67 → 67 ≤ length line → (take new.at new.out.now ≡ text') × (new.at ≤ 67)
stands {line} {text} start front a e most room =
    let place : _ ≡ length text = place_is start front a (omega arith) in
    (rw (place, put_front start front a (omega arith)) (take-append_seam text (drop (length text) line)) ∙ e, omega (arith, place))

pub refused-status : {answer : PoolAnswer} {refusal : PoolRefusal} → answer ≡ Err refusal → status_of answer ≡ 1
unfolding status_of
refused-status e = rw e refl

-- How the program ends with two sheets that were read, each from its argument.
module _ (a b : List ℕ) {i j : ℕ} (is : (i ≡ 1) × (j ≡ 2)) (first : Taken i a) (second : Taken j b) where
  sheets : Sheets a b
  sheets = record { first-taken = rw is.0 at first; second-taken = rw is.1 at second }

  pub pool-ran : {status : ℕ} → pool_answer a b longest ≡ Accepted → AnswerWritten standard_output (pool a b) 0 status → PoolRan status
  pool-ran e (all-written w) = pooled a b sheets e w
  pool-ran e (part-written w) = pool-stopped a b sheets w

  pub refusal-ran : {refusal : PoolRefusal} {status : ℕ} → pool_answer a b longest ≡ Err refusal
      → AnswerWritten standard_error (refusal_text (Err refusal)) 1 status → PoolRan status
  refusal-ran e (all-written w) = refused a b sheets (refused-status e) (rw e w)
  refusal-ran e (part-written w) = refusal-stopped a b sheets (rw e w)
