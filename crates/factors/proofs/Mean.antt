-- The weighted mean over the cells: it is linear in the cells' values, and the computed mean encloses it, for any counts.
-- Assumes nothing.
use mathlib.Core.List.{List, [], ◌∷◌}
use Prim.Native.Nat.{ℕ, suc, ◌+◌, ◌*◌, ◌^◌, ◌/◌, ◌≤◌, ◌<◌}
use native.Mathlib.Omega.{arith}
use native.Mathlib.Nat.{mul-le-mul_right, mul-le-mul_left, div-mul-le_self, lt-div-mul-add, le_of_mul-le-mul_right, div-le_of_le-mul}
use Rattle.numbers.specs.Fraction.{Fraction, ◌≈ᶠ◌, ◌+ᶠ◌, ◌*ᶠ◌, whole, ◌over◌, ◌times◌}
use Rattle.bounds.specs.Enclosure.{Within, WithinAll}
use Rattle.numbers.proofs.Order.{≈-refl, ≈-sym, ≈-trans, ≈-by, +-cong, +-exchange, *-cong, *-comm, *-assoc, *-distrib}
use Rattle.numbers.proofs.Order.{*-zero, +-zero, over-cong, times-cong, times-is}
use Rattle.bounds.proofs.Within.{widen, weaken, whole-within, +-within, times-within, round-within, over-within-scaled}
use Rattle.exact.specs.Factors.{total, weighted_sum, mean}
use Rattle.factors.specs.Means.{weighted, mean_units}

-- Linearity.

-- x/k + y/k = (x + y)/k
over-+ : (x y : Fraction) (k : ℕ) → (x +ᶠ y) over k ≈ᶠ x over k +ᶠ y over k
unfolding ◌over◌ ◌+ᶠ◌
over-+ x y k = omega arith

-- c·(x/k) = (c·x)/k
over-* : (c x : Fraction) (k : ℕ) → (c *ᶠ x) over k ≈ᶠ c *ᶠ (x over k)
unfolding ◌over◌ ◌*ᶠ◌
over-* c x k = omega arith

-- k·(x + y) = k·x + k·y
times-+ : (k : ℕ) (x y : Fraction) → k times (x +ᶠ y) ≈ᶠ k times x +ᶠ k times y
times-+ k x y =
    ≈-by (times-is k (x +ᶠ y)) (+-cong (times-is k x) (times-is k y)) (*-distrib (whole k) x y)

-- k·(c·x) = c·(k·x)
times-* : (k : ℕ) (c x : Fraction) → k times (c *ᶠ x) ≈ᶠ c *ᶠ (k times x)
times-* k c x =
    ≈-by (times-is k (c *ᶠ x)) (*-cong (≈-refl c) (times-is k x)) (swap (whole k) c x)
  where
    swap : (y c x : Fraction) → y *ᶠ (c *ᶠ x) ≈ᶠ c *ᶠ (y *ᶠ x)
    swap y c x = ≈-trans (≈-sym (*-assoc y c x)) (≈-trans (*-cong (*-comm y c) (≈-refl x)) (*-assoc c y x))

module _ (f g : ℕ → Fraction) where
  sum-cong : ((cell : ℕ) → f cell ≈ᶠ g cell) → (cell : ℕ) (counts : List ℕ) → weighted_sum f cell counts ≈ᶠ weighted_sum g cell counts
  unfolding weighted_sum
  sum-cong h cell [] = ≈-refl _
  sum-cong h cell (count ∷ counts) = +-cong (times-cong count (h cell)) (sum-cong h (suc cell) counts)

  sum-+ : (cell : ℕ) (counts : List ℕ)
      → weighted_sum (λ (cell : ℕ). f cell +ᶠ g cell) cell counts ≈ᶠ weighted_sum f cell counts +ᶠ weighted_sum g cell counts
  unfolding weighted_sum
  sum-+ cell [] = ≈-sym (+-zero _)
  sum-+ cell (count ∷ counts) =
      ≈-trans (+-cong (times-+ count (f cell) (g cell)) (sum-+ (suc cell) counts)) (+-exchange _ _ _ _)

  -- cells of equal values have equal means
  pub mean-cong : (counts : List ℕ) → ((cell : ℕ) → f cell ≈ᶠ g cell) → mean f counts ≈ᶠ mean g counts
  unfolding mean
  mean-cong counts h = over-cong (total counts) (sum-cong h 0 counts)

  -- the mean of a sum
  pub mean-+ : (counts : List ℕ) → mean (λ (cell : ℕ). f cell +ᶠ g cell) counts ≈ᶠ mean f counts +ᶠ mean g counts
  unfolding mean
  mean-+ counts = ≈-trans (over-cong (total counts) (sum-+ 0 counts)) (over-+ _ _ (total counts))

module _ (c : Fraction) (f : ℕ → Fraction) where
  sum-* : (cell : ℕ) (counts : List ℕ) → weighted_sum (λ (cell : ℕ). c *ᶠ f cell) cell counts ≈ᶠ c *ᶠ weighted_sum f cell counts
  unfolding weighted_sum
  sum-* cell [] = ≈-sym (*-zero c)
  sum-* cell (count ∷ counts) =
      ≈-trans (+-cong (times-* count c (f cell)) (sum-* (suc cell) counts)) (≈-sym (*-distrib c _ _))

  -- the mean of a multiple
  pub mean-* : (counts : List ℕ) → mean (λ (cell : ℕ). c *ᶠ f cell) counts ≈ᶠ c *ᶠ mean f counts
  unfolding mean
  mean-* counts = ≈-trans (over-cong (total counts) (sum-* 0 counts)) (over-* c _ (total counts))

-- the mean of nothing
pub mean-zero : (counts : List ℕ) → mean (λ (cell : ℕ). whole 0) counts ≈ᶠ whole 0
mean-zero counts =
    let zero : ℕ → Fraction = λ (cell : ℕ). whole 0 in
    ≈-trans (mean-cong zero (λ (cell : ℕ). whole 0 *ᶠ whole 0) counts (λ cell. ≈-sym (*-zero (whole 0))))
    (≈-trans (mean-* (whole 0) zero counts) (≈-trans (*-comm (whole 0) _) (*-zero _)))

-- The computed mean.

-- a weighted sum: each cell's width as often as its count
weighted-within : {s w : ℕ} (v : ℕ → ℕ) (x : ℕ → Fraction) → ((cell : ℕ) → Within s (v cell) w (x cell)) → (cell : ℕ) (counts : List ℕ)
    → Within s (weighted v cell counts) (total counts * w) (weighted_sum x cell counts)
unfolding weighted weighted_sum total
weighted-within {s} {w} v x h cell [] = weaken (whole-within s 0) (omega arith) (omega arith)
weighted-within {s} {w} v x h cell (count ∷ counts) =
    widen (+-within (times-within count (h cell)) (weighted-within v x h (suc cell) counts)) (omega arith)

-- x/k where x is within k·w
part-within : {s l : ℕ} (k w : ℕ) {x : Fraction} → 0 < k → Within s l (k * w) x → Within s (l / k) (w + 1) (x over k)
part-within {s} {l} k w {x} p a =
    let b : Within (s * k) l (k * w) (x over k) = over-within-scaled k p a in
    let d : ℕ = (x over k).den in
    record {
      above = le_of_mul-le-mul_right {k = k} (omega (arith, b.above, mul-le-mul_right d (div-mul-le_self l k))) p;
      below = le_of_mul-le-mul_right {k = k} (omega (arith, b.below, mul-le-mul_right d (lt-div-mul-add {a = l} p))) p;
    }

module _ (counts : List ℕ) (p : 0 < total counts) where
  -- the mean of values of one width
  pub mean-within : {w : ℕ} (v : ℕ → ℕ) (x : ℕ → ℕ → Fraction) → ((cell : ℕ) → WithinAll (2 ^ 40) (v cell) w (λ n. x n cell))
      → WithinAll (2 ^ 28) (mean_units counts v) (w / 2 ^ 12 + 3) (λ n. mean (x n) counts)
  unfolding mean_units mean
  mean-within v x h = record {
    at = λ n n40.
        widen (part-within (total counts) _ p
        (weighted-within _ (x n) (λ cell. round-within {s = 2 ^ 28} (2 ^ 12) (omega arith) ((h cell).at n n40)) 0 counts)) (omega arith);
  }

-- How large it is.

-- a weighted sum of values of at most M
pub weighted-most : (v : ℕ → ℕ) (M : ℕ) → ((cell : ℕ) → v cell ≤ M) → (cell : ℕ) (counts : List ℕ) → weighted v cell counts ≤ total counts * M
unfolding weighted total
weighted-most v M h cell [] = omega arith
weighted-most v M h cell (count ∷ counts) =
    omega (arith, mul-le-mul_left count (h cell), weighted-most v M h (suc cell) counts)

-- the mean of values of at most M, in units of 2⁻²⁸
pub mean_units-most : (counts : List ℕ) (v : ℕ → ℕ) (M : ℕ) → ((cell : ℕ) → v cell ≤ M * 2 ^ 12) → mean_units counts v ≤ M
unfolding mean_units
mean_units-most counts v M h =
    div-le_of_le-mul (total counts) (weighted-most (λ (cell : ℕ). v cell / 2 ^ 12) M (λ cell. omega (arith, h cell)) 0 counts)

-- The sum over the first cells, as a loop adds it up.
