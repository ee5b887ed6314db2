-- The products of two lists of counts: how many they are and what they sum to.
-- Assumes nothing.
use mathlib.Core.Path.{◌≡◌, ◌∙◌}
use mathlib.Core.List.{List, [], ◌∷◌, ◌++◌, map}
use Prim.Native.Nat.{ℕ, ◌+◌, ◌*◌}
use native.Mathlib.Omega.{arith}
use lib.ListN.{length, length-append, length-map}
use Rattle.exact.specs.Factors.{total, products}

module _ (durations : List ℕ) where
  -- as many as pairs of counts
  pub products-length : (hours : List ℕ) → length (products durations hours) ≡ length hours * length durations
  unfolding products
  products-length [] = omega arith
  products-length (q ∷ hours) =
      length-append (map (λ (j : ℕ). j * q) durations) (products durations hours) ∙
      omega (arith, length-map durations (λ (j : ℕ). j * q), products-length hours)

  -- n durations times q
  scaled-total : (q : ℕ) (js rest : List ℕ) → total (map (λ (j : ℕ). j * q) js ++ rest) ≡ total js * q + total rest
  unfolding total
  scaled-total q [] rest = omega arith
  scaled-total q (j ∷ js) rest = omega (arith, scaled-total q js rest)

  -- P·Q
  pub products_total : (hours : List ℕ) → total (products durations hours) ≡ total durations * total hours
  unfolding products total
  products_total [] = omega arith
  products_total (q ∷ hours) = omega (arith, scaled-total q durations (products durations hours), products_total hours)
