-- Need not be believed: the computed weighted mean over the cells.
use Rattle.std.specs.Prelude.{List, [], ◌∷◌, ℕ, suc, ◌+◌, ◌*◌, ◌/◌, ◌^◌}
use Rattle.exact.specs.Factors.{total}

-- each cell's value times its count, summed, cells counted from the given one on
unfoldable pub weighted : (ℕ → ℕ) → ℕ → List ℕ → ℕ
weighted value cell [] = 0
weighted value cell (count ∷ counts) = count * value cell + weighted value (suc cell) counts

-- the mean of values in units of 2⁻⁴⁰ g, in units of 2⁻²⁸ g, from below: a sum of 10⁶ counts then fits 64 bits
unfoldable pub mean_units : List ℕ → (ℕ → ℕ) → ℕ
mean_units counts value = weighted (λ (cell : ℕ). value cell / 2 ^ 12) 0 counts / total counts
