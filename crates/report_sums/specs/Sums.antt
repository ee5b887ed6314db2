-- The sums of a report, taken of the words that a buffer holds, whatever they are: of a sum 64 bits are kept. In a report nothing is lost by
-- that, since every sum fits (proofs/ReportSizes). Definitions only.
use Rattle.std.specs.Prelude.{ℕ, zero, suc, ◌+◌, ◌*◌, ◌/◌, ◌%◌, ◌^◌, Bool, List, slice_set}
use Rattle.std.proofs.lemmas.List.Edits.{sets}
use Rattle.numbers.specs.Lists.{tab, at}
use Rattle.sheet.specs.Bytes.{rows_of, row_at}
use Rattle.report_words.specs.Categories.{counted}
use Rattle.report_words.specs.Categories.{category}

-- word j of the first n rows that belong to a category, summed
unfoldable pub buffer_sum : List ℕ → List ℕ → (ℕ → Bool) → ℕ → ℕ → ℕ
buffer_sum s words category zero j = 0
buffer_sum s words category (suc n) j = buffer_sum s words category n j + counted (category (row_at s n).class) (at words (6 * n + j))

-- "six words each for cars (1 to 3), light-duty (4), two-wheelers (5 to 9); six for all rows": word k of these 24
abbrev pub sum_word : List ℕ → List ℕ → ℕ → ℕ
sum_word s words k = buffer_sum s words (category (k / 6)) (rows_of s) (k % 6) % 2 ^ 64

-- the buffer with these words after those of the rows
unfoldable pub summed : List ℕ → List ℕ → List ℕ
summed s words = sets words (6 * rows_of s) (tab (sum_word s words) 24)

-- "low and high of the grand total, each the sum of three" that stand two apart
unfoldable pub three_word : List ℕ → ℕ → ℕ
three_word words k = (at words k + at words (k + 2) + at words (k + 4)) % 2 ^ 64

-- the buffer with both, of the six words for all rows, after these
unfoldable pub totalled : List ℕ → List ℕ → List ℕ
totalled s words =
    let all = 6 * rows_of s + 18 in
    slice_set (slice_set words (all + 6) (three_word words all)) (all + 7) (three_word words (all + 1))

-- all 26 words after the rows taken anew
unfoldable pub resummed : List ℕ → List ℕ → List ℕ
resummed s words = totalled s (summed s words)
