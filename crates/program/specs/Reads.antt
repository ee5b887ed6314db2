-- What a program may answer: the bytes that a read put into its buffer, all of them. Definitions only.
--
-- What the system's read puts into a buffer no contract can say. So `Taken` and `Unread` are shut: outside this crate they are had from a
-- function that reads this source, and from nothing else. Of a source whose bytes are known `Printed` says more. That argument i is the one
-- that is opened for source i is read in `read_argument`, and shown by runs of `pool`.
use Rattle.std.specs.Prelude.{List, ◌≡◌, ℕ}
use Rattle.std.specs.Coded.{Coded-set, coded_list, coded_ℕ}

-- The bytes are what a read of source i put into a buffer, up to the end of the input or of the buffer. Source i is the file that argument i
-- names; standard input, in place of argument 1, is source 1. Nothing is known of the bytes themselves.
pub Taken : ℕ → List ℕ → Type 0
Taken i bytes = bytes ≡ bytes

-- For the function `read` of this crate, which no other may cite (`python3 -m tools.check calls`): a read took these bytes.
pub taken : (i : ℕ) (bytes : List ℕ) → Taken i bytes
unfolding Taken
taken i bytes = λ _. bytes

-- that it is a fact, which can stand in a struct
pub taken-once : (i : ℕ) (bytes : List ℕ) → IsProp (Taken i bytes)
unfolding Taken
taken-once i bytes = Coded-set (coded_list coded_ℕ) bytes bytes

-- Source i was asked for and could not be read to its end, or the arguments do not name it; that has been said on standard error.
pub Unread : ℕ → Type 0
Unread i = i ≡ i

-- For the functions of this crate that read, and for no other.
pub missed : (i : ℕ) → Unread i
unfolding Unread
missed i = λ _. i
