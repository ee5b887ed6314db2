-- Lists that a loop fills and sums that it adds up. Definitions only.
use Rattle.std.specs.Prelude.{List, [], ◌∷◌, ◌++◌, ℕ, suc, zero, ◌+◌, get_or}

-- f 0, f 1, .. f (n − 1)
unfoldable pub tab : (ℕ → ℕ) → ℕ → List ℕ
tab f zero = []
tab f (suc n) = tab f n ++ (f n ∷ [])

-- f 0 + f 1 + .. + f (n − 1)
unfoldable pub sum : (ℕ → ℕ) → ℕ → ℕ
sum f zero = 0
sum f (suc n) = sum f n + f n

-- what stands at a place of a list, and 0 past its end
abbrev pub at : List ℕ → ℕ → ℕ
at xs k = get_or xs k 0
