-- Need not be believed: what the function that bench/ measures returns, the sum of many exponentials.
use Rattle.std.specs.Prelude.{ℕ, ◌%◌, ◌^◌, cond, List, length, nat_lt, slice_index}
use Rattle.bounds.specs.Exponential.{exponential, exponent_limit}
use Rattle.numbers.specs.Lists.{sum}

-- the exponential of an exponent that is served, and 0 of any other
unfoldable pub served : ℕ → ℕ
served x = cond (nat_lt x exponent_limit) (exponential x) 0

-- their sum, of which 64 bits are kept
unfoldable pub total : List ℕ → ℕ
total xs = sum (λ k. served (slice_index xs k)) (length xs) % 2 ^ 64
