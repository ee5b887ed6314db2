-- Sums over a list of counts: taken from the front, in parts, by the places of the list; and how large they are.
use mathlib.Core.Path.{◌≡◌, refl, sym, ◌∙◌, ap}
use mathlib.Core.List.{List, [], ◌∷◌}
use Prim.Native.Nat.{ℕ, zero, suc, ◌+◌, ◌*◌, ◌≤◌, ◌<◌, zero-le}
use native.Mathlib.Decide.{ℕ_discrete}
use native.Mathlib.Omega.{arith}
use lib.ListN.{length, set, take, length-set}
use lib.Seq.{get_or-set_same, get_or-set_other}
use Rattle.std.proofs.lemmas.List.Sums.{sum_by_more_le, sum_by-set}
use Rattle.numbers.specs.Lists.{tab, at, sum}
use Rattle.numbers.proofs.Lists.{sum-ext, sum-is, tab-length, tab-take, tab-from, get_d-tab}
use Rattle.exact.specs.Factors.{total}
use Rattle.factors.specs.Means.{weighted}

-- the first part apart; std has none of it for the list that a function makes of a range
sum_first : (f : ℕ → ℕ) (n : ℕ) → sum f (suc n) ≡ f 0 + sum (λ (k : ℕ). f (suc k)) n
unfolding sum
sum_first f zero = omega arith
sum_first f (suc n) = omega (arith, sum_first f n)

-- a part and those before it are no more than all
pub sum-within : (f : ℕ → ℕ) {k n : ℕ} → k < n → sum f k + f k ≤ sum f n
sum-within f {k} {n} h =
    let front : take k (tab f n) ≡ tab f k = tab-take f (omega arith) in
    let inside : k < length (tab f n) = rw (tab-length f n) h in
    rw (sum-is f k, sum-is f n)
    (rw (front, get_d-tab f n k h) at (sum_by_more_le (λ (x : ℕ). x) (tab f n) k 0 inside))

-- so where the whole sum is below a limit, each step of adding it up is
pub sum_fits : (f : ℕ → ℕ) {k n s r limit : ℕ} → k < n → sum f n < limit → s ≡ sum f k → r ≡ f k → s + r < limit
sum_fits f l h e g = omega (arith, sum-within f l)

-- where two differ at one place, so do their sums
pub sum-but-one : (g g' : ℕ → ℕ) (a n : ℕ) → a < n → ((k : ℕ) → (k ≡ a → ⊥) → g' k ≡ g k) → sum g' n + g a ≡ sum g n + g' a
sum-but-one g g' a n h e =
    let inside : a < length (tab g n) = rw (tab-length g n) h in
    let with_new : set (tab g n) a (g' a) ≡ tab g' n = tab-from g' (set (tab g n) a (g' a)) (length-set (tab g n) a (g' a) ∙ tab-length g n)
    (λ k l.
    elim (ℕ_discrete k a) [
      | yes q ↦ rw q (get_or-set_same (tab g n) a (g' a) 0 inside)
      | no q ↦ get_or-set_other (tab g n) a k (g' a) 0 q ∙ get_d-tab g n k l ∙ sym (e k q)
    ]) in
    rw (sum-is g n, sum-is g' n)
    (rw (with_new, get_d-tab g n a h) at (sum_by-set (λ (x : ℕ). x) (tab g n) a (g' a) 0 inside))

-- `weighted` is a sum over the places of the list
pub weighted-is : (value : ℕ → ℕ) (first : ℕ) (counts : List ℕ)
    → weighted value first counts ≡ sum (λ (k : ℕ). at counts k * value (first + k)) (length counts)
unfolding weighted sum
weighted-is value first [] = refl
weighted-is value first (count ∷ counts) =
    let shift : (k : ℕ) → k < length counts → at counts k * value (suc first + k) ≡ at counts k * value (first + suc k)
    = (λ k h. ap (λ (place : ℕ). at counts k * value place) (omega arith)) in
    omega (
      arith,
      weighted-is value (suc first) counts,
      sum-ext (length counts) shift,
      sum_first (λ (k : ℕ). at (count ∷ counts) k * value (first + k)) (length counts),
      ap (λ (place : ℕ). count * value place) {x = first + 0} {y = first} (omega arith),
    )

-- the same values in its cells, the same weighted sum
pub weighted-ext : {value value' : ℕ → ℕ} (counts : List ℕ) → ((cell : ℕ) → cell < length counts → value cell ≡ value' cell)
    → weighted value 0 counts ≡ weighted value' 0 counts
weighted-ext {value} {value'} counts h =
    weighted-is value 0 counts ∙
    sum-ext (length counts) (λ k l. ap (λ (x : ℕ). at counts k * x) (same k l)) ∙ sym (weighted-is value' 0 counts)
  where
    same : (k : ℕ) → k < length counts → value (0 + k) ≡ value' (0 + k)
    same k l = ap value {x = 0 + k} {y = k} (omega arith) ∙ h k l ∙ ap value' {x = k} {y = 0 + k} (omega arith)

-- `total` is a sum over the places of the list
pub total-is : (counts : List ℕ) → total counts ≡ sum (at counts) (length counts)
unfolding total sum
total-is [] = refl
total-is (count ∷ counts) = omega (arith, total-is counts, sum_first (at (count ∷ counts)) (length counts))

-- no count is above their total
pub at-le-total : (counts : List ℕ) (k : ℕ) → at counts k ≤ total counts
unfolding total
at-le-total [] k = zero-le
at-le-total (count ∷ counts) zero = omega arith
at-le-total (count ∷ counts) (suc k) = omega (arith, at-le-total counts k)
