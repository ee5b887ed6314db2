-- The lines that the program `report` prints, from the version, R and the words of a report. Definitions only.
use Rattle.std.specs.Prelude.{List, [], ◌∷◌, ◌++◌, ℕ, suc, zero, ◌+◌, ◌*◌, ◌-◌, take, drop}
use Rattle.text.specs.Ascii.{bytes}
use Rattle.text.specs.Decimal.{digits}

-- two numbers, each behind a text
unfoldable pub pair_line : List ℕ → ℕ → List ℕ → ℕ → List ℕ
pair_line first a second b = first ++ digits a ++ second ++ digits b ++ bytes "\n"

-- "The program `report` .. prints `refused N at P`"
unfoldable pub refusal_line : ℕ → ℕ → List ℕ
refusal_line number place = pair_line (bytes "refused ") number (bytes " at ") place

-- "or all words as below". "The first line gives the version and R"
unfoldable pub head_line : ℕ → ℕ → List ℕ
head_line version rows = pair_line (bytes "EVP ") version (bytes " rows ") rows

-- a space and a word, for each word
unfoldable pub field : ℕ → List ℕ
field word = bytes " " ++ digits word

unfoldable pub fields : List ℕ → List ℕ
fields [] = []
fields (word ∷ words) = field word ++ fields words

-- "Fields after the name are the words in report order. Every line, a refusal's too, ends with a line feed."
unfoldable pub line : List ℕ → List ℕ → List ℕ
line name words = name ++ fields words ++ bytes "\n"

-- words a to e − 1; the six from a place on
abbrev pub between : ℕ → ℕ → List ℕ → List ℕ
between a e words = take (e - a) (drop a words)

abbrev pub six : ℕ → List ℕ → List ℕ
six from words = between from (from + 6) words

-- "row lines are numbered from 1": that of row i, counted from 0, and those of the first n rows
unfoldable pub row_line : List ℕ → ℕ → List ℕ
row_line words i = line (bytes "row " ++ digits (i + 1)) (six (6 * i) words)

unfoldable pub row_lines : List ℕ → ℕ → List ℕ
row_lines words zero = []
row_lines words (suc n) = row_lines words n ++ row_line words n

-- the lines below the rows, whose words start at a place
unfoldable pub sum_lines : List ℕ → ℕ → List ℕ
sum_lines words at =
    line (bytes "cars") (six at words) ++
    line (bytes "light") (six (at + 6) words) ++
    line (bytes "two") (six (at + 12) words) ++
    line (bytes "all") (six (at + 18) words) ++
    line (bytes "total") (between (at + 24) (at + 26) words)

-- all lines of an accepted sheet
unfoldable pub report_lines : ℕ → ℕ → List ℕ → List ℕ
report_lines version rows words = head_line version rows ++ row_lines words rows ++ sum_lines words (6 * rows)
