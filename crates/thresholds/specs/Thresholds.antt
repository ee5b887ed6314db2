-- Need not be believed: the exponent at which E reaches a whole number M of kilometres, as the program finds it.
-- Exponents are in units of 10⁻¹⁴, E at whole exponents in units of 2⁻³⁰.
-- With c the first whole exponent where E is at least M, the exponent is c − d for the largest d with M·E(d) ≤ E(c).
use Rattle.std.specs.Prelude.{Bool, cond, ℕ, suc, zero, ◌+◌, ◌*◌, ◌-◌, ◌^◌, leb, get_or}
use Rattle.bounds.specs.Exponential.{exponential}
use Rattle.bounds.specs.WholeExponents.{far}

-- how far 2⁴⁰·E(d) can be above what is computed of it, for d up to 2⁴⁷
abbrev pub near_error : ℕ
near_error = 35

-- M·E(d) is at most E(c), so that M is at most E(c − d)
unfoldable pub within : ℕ → ℕ → ℕ → Bool
within M c d = leb (M * (exponential (16 * 10 ^ 14 + d) + near_error)) (get_or far c 0 * 2 ^ 10)

-- d with one more binary digit where that is still within, and else without
unfoldable pub digit : ℕ → ℕ → ℕ → ℕ → ℕ
digit M c d bit = cond (within M c (d + bit)) (d + bit) d

-- the largest d that is within, by binary digits: d is found so far, and so many digits are left
unfoldable pub digits : ℕ → ℕ → ℕ → ℕ → ℕ
digits M c zero d = d
digits M c (suc left) d = digits M c left (digit M c d (2 ^ left))

-- the first whole exponent after c where E is at least M; after so many that are tried the next is taken
unfoldable pub first_after : ℕ → ℕ → ℕ → ℕ
first_after M zero c = suc c
first_after M (suc tries) c = cond (within M (suc c) 0) (suc c) (first_after M tries (suc c))

-- the first mileage with which a canister is not empty, in km: E(22.92/8.13) lies between 16 and 17
abbrev pub first_kilometres : ℕ
first_kilometres = 17

-- for M from there to 1,000,000: 3 to 14
unfoldable pub whole_above : ℕ → ℕ
whole_above M = first_after M 11 2

-- an exponent where E is at least M
unfoldable pub enough : ℕ → ℕ
enough M = whole_above M * 10 ^ 14 - digits M (whole_above M) 47 0

-- by how much an exponent must be lower, so that E there is below M for every n: a unit for the last digit, and 4·10⁻⁹
abbrev pub margin : ℕ
margin = 400001

-- an exponent where E is below M
unfoldable pub log_lower : ℕ → ℕ
log_lower M = enough M - margin
