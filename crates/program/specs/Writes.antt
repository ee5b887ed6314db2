-- That a program answers: a text that was handed over to be written. Definitions only.
--
-- What the system's write does with a text no contract can say. So `Written` and `Unwritten` are shut: outside this crate they are had from
-- a function that writes this text to this stream, and from nothing else. A program's contract asks for one of them at its end, so that a
-- program which hands over nothing, or another text, is not proved. That it does so once these facts cannot say: a fact is not used up, it
-- speaks of values, so that what was written twice is also written. Of a writer whose bytes are known `Printed` says it. At most one answer
-- is a rule on the source too (`python3 -m tools.check calls`), as is which writer `main` hands over for which stream, and that the bytes
-- arrive is shown by runs (`tools.check samples`).
use Rattle.std.specs.Prelude.{Bool, true, false, List, ◌≡◌, ℕ}

-- where a program writes
abbrev pub standard_output : ℕ
standard_output = 1

abbrev pub standard_error : ℕ
standard_error = 2

-- the whole text was handed over to be written to a stream, and the system said that it took all of it; or that it did not
pub Written : ℕ → List ℕ → Type 0
Written stream text = text ≡ text

pub Unwritten : ℕ → List ℕ → Type 0
Unwritten stream text = text ≡ text

-- For the function `write_text` of this crate, which no other may cite (`python3 -m tools.check calls`).
pub wrote : (stream : ℕ) (text : List ℕ) → Written stream text
unfolding Written
wrote stream text = λ _. text

pub stopped : (stream : ℕ) (text : List ℕ) → Unwritten stream text
unfolding Unwritten
stopped stream text = λ _. text

-- What holds after a text was handed over, with whether all of it was taken.
pub record Writes (stream : ℕ) (text : List ℕ) (all : Bool) : Type 0 where
  pub whole : all ≡ true → Written stream text
  pub part : all ≡ false → Unwritten stream text

-- How a program ends after an answer was handed over: all of it was taken, and the exit status is that of the answer; or not all, and it is 2.
pub data AnswerWritten (stream : ℕ) (text : List ℕ) (status : ℕ) : ℕ → Type 0 where
  all-written : Written stream text → AnswerWritten stream text status status
  part-written : Unwritten stream text → AnswerWritten stream text status 2
