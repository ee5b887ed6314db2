-- How many words a report has, and which classes its subtotals add up. Definitions only.
use Rattle.std.specs.Prelude.{Bool, true, false, ◌&&◌, List, ℕ, suc, zero, ◌+◌, ◌*◌, leb, eqb}
use Rattle.sheet.specs.Bytes.{rows_of}

-- "6R + 26 u64 words"
unfoldable pub report_length : List ℕ → ℕ
report_length s = 6 * rows_of s + 26

-- "cars (1 to 3), light-duty (4), two-wheelers (5 to 9)", by class
unfoldable pub car : ℕ → Bool
car class = leb 1 class && leb class 3

unfoldable pub light_duty : ℕ → Bool
light_duty class = eqb class 4

unfoldable pub two_wheeler : ℕ → Bool
two_wheeler class = leb 5 class && leb class 9

unfoldable pub any_class : ℕ → Bool
any_class class = true

-- a word where the row belongs to the category, else 0
unfoldable pub counted : Bool → ℕ → ℕ
counted true word = word
counted false word = 0

-- the categories in their order: "cars (1 to 3), light-duty (4), two-wheelers (5 to 9)", and all rows
unfoldable pub category : ℕ → ℕ → Bool
category zero = car
category (suc zero) = light_duty
category (suc (suc zero)) = two_wheeler
category (suc (suc (suc c))) = any_class
