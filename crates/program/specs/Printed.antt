-- What is known of the bytes that a program reads and writes where a reader's or a writer's bytes are known. Definitions only.
--
-- A program is proved for every reader and every writer. Of the system's own streams no contract says what bytes they have: for these see
-- `Reads` and `Writes`. Of a reader or a writer over memory it does, and what holds of each such one is what is meant of those.
use Rattle.std.specs.Prelude.{Bool, true, false, List, ◌≡◌, ℕ, take, IfSome, ◌⊎◌, Option}
use Rattle.std.specs.Io.KnownBytes.{Appends}
use Rattle.program.specs.Ends.{sheet_status}

-- the bytes that were read are those of the source, all of them, or as many as there is room for
abbrev pub Takes : List ℕ → ℕ → List ℕ → Type 0
Takes source room bytes = bytes ≡ take room source

-- a writer has more than before: all of a text, or a front of it
abbrev pub Wrote : Option (List ℕ) → Option (List ℕ) → List ℕ → Bool → Type 0
Wrote old new text true = Appends old new text
Wrote old new text false = (k : ℕ) × Appends old new (take k text)

-- After an answer with an exit status of its own: the writer has more just its text, and the program ends with that status; or it has a front
-- of the text, and the program ends with 2.
abbrev pub AnswerPrinted : ℕ → List ℕ → Option (List ℕ) → Option (List ℕ) → ℕ → Type 0
AnswerPrinted answer text old new status = ((status ≡ answer) × Wrote old new text true) ⊎ ((status ≡ 2) × Wrote old new text false)

-- After a sheet was answered with a text: the writer has more just this text, all of it and once, and the exit status is that of the sheet; or
-- it has a front of the text, and the status is 2.
abbrev pub SheetPrinted : List ℕ → List ℕ → Option (List ℕ) → Option (List ℕ) → ℕ → Type 0
SheetPrinted s = AnswerPrinted (sheet_status s)

-- After a program that answers one sheet, of as much of its source as its buffer holds, one byte more than the longest sheet has.
abbrev pub PrintsRead : (List ℕ → List ℕ) → Option (List ℕ) → Option (List ℕ) → Option (List ℕ) → ℕ → Type 0
PrintsRead text_of source old new status =
    (s : List ℕ) × IfSome source (λ bytes. s ≡ take 25257 bytes) × SheetPrinted s (text_of s) old new status

-- After a program that answers one sheet, of all bytes of its source.
abbrev pub Prints : (List ℕ → List ℕ) → Option (List ℕ) → Option (List ℕ) → Option (List ℕ) → ℕ → Type 0
Prints text_of source old new status =
    (s : List ℕ) × IfSome source (λ bytes. s ≡ bytes) × SheetPrinted s (text_of s) old new status
