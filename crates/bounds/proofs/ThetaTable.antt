-- The table of Θ: for every n from 40 upward the quadratic P of a cell is at most E(t·P), and P + 16·2⁻³¹ is at least that. One computed test
-- over the table. With t = (k + s)/2¹¹ and P = p₀ + p₁·s + p₂·s², t·P is the sum of k·p₀ and a small u: E(t·P) is close to
-- E(k·p₀)·(1 + u + u²/2), and both sides are compared as polynomials of s, term by term.
-- Assumes nothing.
use mathlib.Core.Bool.{Bool, true, false}
use mathlib.Core.List.{List, [], ◌∷◌}
use mathlib.Core.Path.{◌≡◌, refl}
use Prim.Native.Nat.{ℕ, zero, suc, ◌+◌, ◌*◌, ◌-◌, ◌/◌, ◌%◌, ◌^◌, ◌≤◌, ◌<◌}
use native.Mathlib.Omega.{arith}
use native.Mathlib.Nat.{div-mul-le_self, add-zero, mul-pos, mul-le-mul, mul-le-mul_left}
use native.Mathlib.Nat.{le_of_mul-le-mul_left, le_dest, le_of_suc-le-suc, not-suc-le-zero}
use lib.Dec.{T, leb, leb→le, lit<, lit≤}
use lib.ListN.{length, get_or}
use Rattle.numbers.specs.Fraction.{Fraction, ◌≤ᶠ◌, ◌≈ᶠ◌, ◌+ᶠ◌, ◌*ᶠ◌, ◌/10^◌}
use Rattle.numbers.proofs.Order.{via, ≤-by, ≤-refl, ≤_trans, ≈-refl, ≈-trans, ≈→≤, ≈→≥, +-mono, ratio, ratio-≤, ratio-≈}
use Rattle.numbers.proofs.Order.{ratio-sum, ratio-product}
use Rattle.bounds.specs.Series.{E, two_pos}
use Rattle.bounds.specs.Enclosure.{Within}
use Rattle.bounds.proofs.Product.{den, num, den_pos, num-zero, num-two, den-two, num-scale, den-scale, product-above, product-below}
use Rattle.bounds.proofs.Table.{both, both_left, both_right}
use Rattle.bounds.proofs.Tail.{Near, near, near_test, quadratic-tail}
use Rattle.bounds.proofs.Exponential.{E-at, E-mono}
use Rattle.bounds.proofs.Units.{unit-pos, units}
use Rattle.bounds.specs.Theta.{thetas, coefficient, on_cell, theta, on_cell_exact, scale-pos, theta_exact}

-- Polynomials of s = τ/t, term by term: if no sum of the first coefficients is larger, no value is.
abel : (t τ c₀ c₁ c₂ d₀ d₁ d₂ : ℕ) → τ ≤ t → d₀ ≤ c₀ → d₀ + d₁ ≤ c₀ + c₁ → d₀ + d₁ + d₂ ≤ c₀ + c₁ + c₂
    → d₀ * (t * t) + d₁ * (τ * t) + d₂ * (τ * τ) ≤ c₀ * (t * t) + c₁ * (τ * t) + c₂ * (τ * τ)
abel t τ c₀ c₁ c₂ d₀ d₁ d₂ h a b c =
    let r = le_dest h in
    rw (← r.1)
    (omega (arith, mul-le-mul_left ((τ + r.0) * r.0) a, mul-le-mul_left (τ * r.0) b, mul-le-mul_left (τ * τ) c))

-- how far P can be below E(t·P), in units of 2⁻³¹
abbrev theta_error : ℕ
theta_error = 16

-- the tail of E after u² is at most the term of u² over this
abbrev few : ℕ
few = 2700

-- A cell that passes: e is just below 2⁴⁰·E(k·p₀/q), with q = 2⁴²; α is p₀ + k·p₁, and β is p₁ + k·p₂.
record Passed (q k p₀ p₁ p₂ α β e : ℕ) : Type 0 where
  level : Near q 14 (2 ^ 40) (k * p₀) 0 e
  small : (1 + few) * (α + (β + p₂)) ≤ 1 * (q * 3)
  low₀ : 2 ^ 10 * (q * q) * p₀ ≤ e * (2 * (q * q))
  low₁ : 2 ^ 10 * (q * q) * p₀ + 2 ^ 10 * (q * q) * p₁ ≤ e * (2 * (q * q)) + e * (2 * q * α)
  low₂ : 2 ^ 10 * (q * q) * p₀ + 2 ^ 10 * (q * q) * p₁ + 2 ^ 10 * (q * q) * p₂
      ≤ e * (2 * (q * q)) + e * (2 * q * α) + e * (2 * q * β + α * α)
  high₀ : (e + 1) * (2 * (q * q) * few) ≤ 2 ^ 10 * (q * q) * few * (p₀ + theta_error)
  high₁ : (e + 1) * (2 * (q * q) * few) + (e + 1) * (2 * q * few * α)
      ≤ 2 ^ 10 * (q * q) * few * (p₀ + theta_error) + 2 ^ 10 * (q * q) * few * p₁
  high₂ : (e + 1) * (2 * (q * q) * few) + (e + 1) * (2 * q * few * α)
      + (e + 1) * (2 * q * few * (β + p₂) + (few + 1) * ((α + (β + p₂)) * (α + (β + p₂))))
      ≤ 2 ^ 10 * (q * q) * few * (p₀ + theta_error) + 2 ^ 10 * (q * q) * few * p₁ + 2 ^ 10 * (q * q) * few * p₂
  fits : p₀ + p₁ + p₂ ≤ 23 * 2 ^ 27

-- the same as a test: each number of the first list is at most that of the second
unfoldable none_above : List ℕ → List ℕ → Bool
none_above [] ys = true
none_above (x ∷ xs) [] = false
none_above (x ∷ xs) (y ∷ ys) = both (leb x y) (none_above xs ys)

none_above_lem : (xs ys : List ℕ) → T (none_above xs ys) → (k : ℕ) → k < length xs → get_or xs k 0 ≤ get_or ys k 0
unfolding none_above
none_above_lem [] ys t k h = absurd (not-suc-le-zero h)
none_above_lem (x ∷ xs) [] t k h = absurd t
none_above_lem (x ∷ xs) (y ∷ ys) t zero h = leb→le x y (both_left (leb x y) (none_above xs ys) t)
none_above_lem (x ∷ xs) (y ∷ ys) t (suc k) h = none_above_lem xs ys (both_right (leb x y) (none_above xs ys) t) k (le_of_suc-le-suc h)

abbrev smaller : ℕ → ℕ → ℕ → ℕ → ℕ → ℕ → ℕ → ℕ → List ℕ
smaller q k p₀ p₁ p₂ α β e =
    (suc (k * p₀)) ∷
    ((1 + few) * (α + (β + p₂))) ∷
    (2 ^ 10 * (q * q) * p₀) ∷
    (2 ^ 10 * (q * q) * p₀ + 2 ^ 10 * (q * q) * p₁) ∷
    (2 ^ 10 * (q * q) * p₀ + 2 ^ 10 * (q * q) * p₁ + 2 ^ 10 * (q * q) * p₂) ∷
    ((e + 1) * (2 * (q * q) * few)) ∷
    ((e + 1) * (2 * (q * q) * few) + (e + 1) * (2 * q * few * α)) ∷
    ((e + 1) * (2 * (q * q) * few) + (e + 1) * (2 * q * few * α)
    + (e + 1) * (2 * q * few * (β + p₂) + (few + 1) * ((α + (β + p₂)) * (α + (β + p₂))))) ∷
    (p₀ + p₁ + p₂) ∷ []

abbrev larger : ℕ → ℕ → ℕ → ℕ → ℕ → ℕ → ℕ → ℕ → List ℕ
larger q k p₀ p₁ p₂ α β e =
    (q * 15) ∷
    (1 * (q * 3)) ∷
    (e * (2 * (q * q))) ∷
    (e * (2 * (q * q)) + e * (2 * q * α)) ∷
    (e * (2 * (q * q)) + e * (2 * q * α) + e * (2 * q * β + α * α)) ∷
    (2 ^ 10 * (q * q) * few * (p₀ + theta_error)) ∷
    (2 ^ 10 * (q * q) * few * (p₀ + theta_error) + 2 ^ 10 * (q * q) * few * p₁) ∷
    (2 ^ 10 * (q * q) * few * (p₀ + theta_error) + 2 ^ 10 * (q * q) * few * p₁ + 2 ^ 10 * (q * q) * few * p₂) ∷
    (23 * 2 ^ 27) ∷ []

unfoldable cell_test : ℕ → ℕ → ℕ → ℕ → ℕ → ℕ → ℕ → ℕ → Bool
unfolding near_test none_above
cell_test q k p₀ p₁ p₂ α β e = both (near_test q 14 (2 ^ 40) (k * p₀) 0 e) (none_above (smaller q k p₀ p₁ p₂ α β e) (larger q k p₀ p₁ p₂ α β e))

-- a cell that passes the test
cell-passed : (q k p₀ p₁ p₂ α β e : ℕ) → 0 < q → T (cell_test q k p₀ p₁ p₂ α β e) → Passed q k p₀ p₁ p₂ α β e
unfolding cell_test
cell-passed q k p₀ p₁ p₂ α β e q0 t =
    let a = near_test q 14 (2 ^ 40) (k * p₀) 0 e in
    let b = none_above (smaller q k p₀ p₁ p₂ α β e) (larger q k p₀ p₁ p₂ α β e) in
    let g = none_above_lem (smaller q k p₀ p₁ p₂ α β e) (larger q k p₀ p₁ p₂ α β e) (both_right a b t) in
    record {
      level = near q 14 (2 ^ 40) (k * p₀) 0 e q0 (g 0 (lit< tt)) (mul-pos q0 (lit< tt)) (both_left a b t);
      small = g 1 (lit< tt);
      low₀ = g 2 (lit< tt);
      low₁ = g 3 (lit< tt);
      low₂ = g 4 (lit< tt);
      high₀ = g 5 (lit< tt);
      high₁ = g 6 (lit< tt);
      high₂ = g 7 (lit< tt);
      fits = g 8 (lit< tt);
    }

-- Over bare numbers: t is a cell's width, u's numerator is r over t³·q.

-- r ≥ t·v and r² ≥ t⁴·y give 1 + u + u²/2 from below
quadratic-least : (t q r v y : ℕ) → t * v ≤ r → t * t * (t * t) * y ≤ r * r
    → t * t * (t * t) * (2 * (q * q) * (t * t) + 2 * q * v + y) ≤ 2 * (t * t * t * q * (t * t * t * q)) + 2 * (t * t * t * q * r) + r * r
quadratic-least t q r v y h g = omega (arith, mul-le-mul_left (2 * t * t * t * q) h, g)

-- and r ≤ t·v and r² ≤ t⁴·y from above, with the tail
quadratic-most : (t q r v y b : ℕ) → r ≤ t * v → r * r ≤ t * t * (t * t) * y
    → b * (2 * (t * t * t * q * (t * t * t * q)) + 2 * (t * t * t * q * r) + r * r) + r * r
    ≤ t * t * (t * t) * (2 * (q * q) * b * (t * t) + 2 * q * b * v + (b + 1) * y)
quadratic-most t q r v y b h g = omega (arith, mul-le-mul_left (2 * t * t * t * q * b) h, mul-le-mul_left (b + 1) g)

-- the common factor s·f goes out, with s = q² and f = t⁴, and w = t²
cancel-low : (s f w P D M e z x : ℕ) → 0 < s → 0 < f → 2 ^ 10 * s * P ≤ e * z → f * z ≤ x → e * x * D ≤ 2 ^ 40 * (2 * (f * w * s)) * M
    → P * D ≤ 2 ^ 31 * w * M
cancel-low s f w P D M e z x s0 f0 a b c =
    le_of_mul-le-mul_left {k = 2 ^ 10 * s * f}
    (omega (arith, mul-le-mul_left (f * D) a, mul-le-mul_left (e * D) b, c)) (mul-pos (mul-pos (omega arith) s0) f0)

cancel-high : (s f w P D M e z x b : ℕ) → 0 < s → 0 < f → 0 < b → e * z ≤ 2 ^ 10 * s * b * P → x ≤ f * z
    → 2 ^ 40 * (2 * (f * w * s) * b) * M ≤ e * x * D
    → 2 ^ 31 * w * M ≤ P * D
cancel-high s f w P D M e z x b s0 f0 b0 a g c =
    le_of_mul-le-mul_left {k = 2 ^ 10 * s * b * f}
    (omega (arith, mul-le-mul_left (f * D) a, mul-le-mul_left (e * D) g, c)) (mul-pos (mul-pos (mul-pos (omega arith) s0) b0) f0)

-- Sums.

-- E at a sum, over the denominator c·q: e is just below 2⁴⁰·E(i/q)
module _ (q c i e r n : ℕ) (p : 0 < c * q) (n40 : 40 ≤ n) (near-e : Near q 14 (2 ^ 40) i 0 e) where
  sum-least : e * (2 * (c * q * (c * q)) + 2 * (c * q * r) + r * r) * den (c * q) n ≤ 2 ^ 40 * (2 * (c * q * (c * q))) * num (c * q) (c * i + r) n
  sum-least =
      let m : ℕ = n - 2 in
      let f : m + 2 ≡ n = omega arith in
      let a : e * den (c * q) m ≤ 2 ^ 40 * num (c * q) (c * i) m =
      rw (num-scale c q i m, den-scale c q m)
      (omega (arith, mul-le-mul_left (c ^ m) (rw num-zero at (near-e.above m (omega arith))))) in
      shape (den (c * q) m) (num (c * q) (c * i) m) _ _ (den (c * q) n) (num (c * q) (c * i + r) n) (den_pos (c * q) m p) a
      (rw (f, num-two (c * q) r, den-two (c * q)) at (product-below (c * q) (c * i) r m 2))
    where
      shape : (d N x w D M : ℕ) → 0 < d → e * d ≤ 2 ^ 40 * N → N * x * D ≤ d * w * M → e * x * D ≤ 2 ^ 40 * w * M
      shape d N x w D M d0 a b = le_of_mul-le-mul_left {k = d} (omega (arith, mul-le-mul_left (x * D) a, mul-le-mul_left (2 ^ 40) b)) d0

  sum-most : (1 + few) * r ≤ 1 * (c * q * 3)
      → 2 ^ 40 * (2 * (c * q * (c * q)) * few) * num (c * q) (c * i + r) n
      ≤ (e + 1) * (few * (2 * (c * q * (c * q)) + 2 * (c * q * r) + r * r) + r * r) * den (c * q) n
  sum-most h =
      let a : 2 ^ 40 * num (c * q) (c * i) n ≤ (e + 1) * den (c * q) n =
      rw (num-scale c q i n, den-scale c q n)
      (omega (arith, mul-le-mul_left (c ^ n) (rw num-zero at (near-e.below n (omega arith))))) in
      shape (num (c * q) (c * i) n) (num (c * q) r n) _ _ (den (c * q) n) (num (c * q) (c * i + r) n) (den_pos (c * q) n p) a
      (quadratic-tail (c * q) r few n (omega arith) (omega (arith, h))) (product-above (c * q) (c * i) r n)
    where
      shape : (N R x w D M : ℕ) → 0 < D → 2 ^ 40 * N ≤ (e + 1) * D → w * R ≤ D * x → D * M ≤ N * R → 2 ^ 40 * w * M ≤ (e + 1) * x * D
      shape N R x w D M d0 a b g =
          le_of_mul-le-mul_left {k = D}
          (omega (arith, mul-le-mul_left (2 ^ 40 * w) g, mul-le-mul a b)) d0

-- The same polynomials, gathered.

gather-low : (s w q x y z e p₀ p₁ p₂ a b : ℕ) → s * p₀ * x + s * p₁ * y + s * p₂ * z ≤ e * w * x + e * (2 * q * a) * y + e * (2 * q * b + a * a) * z
    → s * (p₀ * x + p₁ * y + p₂ * z) ≤ e * (w * x + 2 * q * (a * y + b * z) + a * a * z)
gather-low s w q x y z e p₀ p₁ p₂ a b g = omega (arith, g)

gather-high : (s w q x y z e p₀ p₁ p₂ a g b m v : ℕ)
    → e * w * x + e * (q * a) * y + e * (q * g + b * m) * z ≤ s * (p₀ + v) * x + s * p₁ * y + s * p₂ * z
    → e * (w * x + q * (a * y + g * z) + b * (m * z)) ≤ s * (p₀ * x + p₁ * y + p₂ * z + v * x)
gather-high s w q x y z e p₀ p₁ p₂ a g b m v h = via h left right
  where
    left : e * (w * x + q * (a * y + g * z) + b * (m * z)) ≡ e * w * x + e * (q * a) * y + e * (q * g + b * m) * z
    left = omega arith

    right : s * (p₀ * x + p₁ * y + p₂ * z + v * x) ≡ s * (p₀ + v) * x + s * p₁ * y + s * p₂ * z
    right = omega arith

-- (x·q)² is x²·q²
regroup : (x q D M z e w : ℕ) → e * z * D ≤ w * (2 * (x * q * (x * q))) * M → e * z * D ≤ w * (2 * (x * x * (q * q))) * M
regroup x q D M z e w g = omega (arith, g)

regroup-high : (x q D M z e w b : ℕ) → w * (2 * (x * q * (x * q)) * b) * M ≤ e * z * D → w * (2 * (x * x * (q * q)) * b) * M ≤ e * z * D
regroup-high x q D M z e w b g = omega (arith, g)

-- t³·t³ is t⁴·t²
sixth : (t : ℕ) → t * t * t * (t * t * t) ≡ t * t * (t * t) * (t * t)
sixth t = omega arith

-- bounds of u's numerator a·τ·t² + b·τ²·t + p·τ³
numerator-least : (t τ a b p : ℕ) → t * (a * (τ * t) + b * (τ * τ)) ≤ a * (τ * (t * t)) + b * (τ * τ * t) + p * (τ * τ * τ)
numerator-least t τ a b p = omega arith

numerator-most : (t τ a b p : ℕ) → τ ≤ t → a * (τ * (t * t)) + b * (τ * τ * t) + p * (τ * τ * τ) ≤ t * (a * (τ * t) + (b + p) * (τ * τ))
numerator-most t τ a b p h = omega (arith, mul-le-mul_left (p * (τ * τ)) h)

numerator-all : (t τ a b p : ℕ) → τ ≤ t → a * (τ * (t * t)) + b * (τ * τ * t) + p * (τ * τ * τ) ≤ (a + (b + p)) * (τ * (t * t))
numerator-all t τ a b p h = omega (arith, mul-le-mul_left (p * (τ * τ)) h, mul-le-mul_left ((b + p) * (τ * t)) h)

square-least : (t τ a r : ℕ) → a * (τ * (t * t)) ≤ r → t * t * (t * t) * (a * a * (τ * τ)) ≤ r * r
square-least t τ a r g = omega (arith, mul-le-mul g g)

square-most : (t τ a r : ℕ) → r ≤ a * (τ * (t * t)) → r * r ≤ t * t * (t * t) * (a * a * (τ * τ))
square-most t τ a r g = omega (arith, mul-le-mul g g)

part : (a b c : ℕ) → a ≤ a + b + c
part a b c = omega arith

-- t·P is k·p₀ and u
exponent-is : (t τ k p₀ p₁ p₂ : ℕ)
    → (k * t + τ) * (p₀ * (t * t) + p₁ * (τ * t) + p₂ * (τ * τ))
    ≡ t * t * t * (k * p₀) + ((p₀ + k * p₁) * (τ * (t * t)) + (p₁ + k * p₂) * (τ * τ * t) + p₂ * (τ * τ * τ))
exponent-is t τ k p₀ p₁ p₂ = omega arith

-- u is small enough for the tail
small-numerator : (t τ q b m r : ℕ) → τ ≤ t → r ≤ m * (τ * (t * t)) → (1 + b) * m ≤ 1 * (q * 3) → (1 + b) * r ≤ 1 * (t * t * t * q * 3)
small-numerator t τ q b m r h g l =
    omega (arith, mul-le-mul_left (1 + b) g, mul-le-mul_left ((1 + b) * m * (t * t)) h, mul-le-mul_left (t * t * t) l)

-- A value on a cell.
module _ (t q k p₀ p₁ p₂ e τ n : ℕ) (t0 : 0 < t) (q0 : 0 < q) (n40 : 40 ≤ n) (h : τ ≤ t) (c : Passed q k p₀ p₁ p₂ (p₀ + k * p₁) (p₁ + k * p₂) e) where
  abbrev α : ℕ
  α = p₀ + k * p₁

  abbrev β : ℕ
  β = p₁ + k * p₂

  -- P over t²
  abbrev P : ℕ
  P = p₀ * (t * t) + p₁ * (τ * t) + p₂ * (τ * τ)

  -- u over t³·q
  abbrev r : ℕ
  r = α * (τ * (t * t)) + β * (τ * τ * t) + p₂ * (τ * τ * τ)

  abbrev Q : ℕ
  Q = t * t * t * q

  Q-pos : 0 < t * t * t * q
  Q-pos = mul-pos (mul-pos (mul-pos t0 t0) t0) q0

  fourth-pos : 0 < t * t * (t * t)
  fourth-pos = mul-pos (mul-pos t0 t0) (mul-pos t0 t0)

  low : P * den Q n ≤ 2 ^ 31 * (t * t) * num Q ((k * t + τ) * P) n
  low =
      rw (exponent-is t τ k p₀ p₁ p₂)
      (cancel-low (q * q) (t * t * (t * t)) (t * t) P (den Q n) (num Q (t * t * t * (k * p₀) + r) n) e
      (2 * (q * q) * (t * t) + 2 * q * (α * (τ * t) + β * (τ * τ)) + α * α * (τ * τ)) (2 * (Q * Q) + 2 * (Q * r) + r * r) (mul-pos q0 q0) fourth-pos
      (gather-low (2 ^ 10 * (q * q)) (2 * (q * q)) q (t * t) (τ * t) (τ * τ) e p₀ p₁ p₂ α β (abel t τ _ _ _ _ _ _ h c.low₀ c.low₁ c.low₂))
      (quadratic-least t q r (α * (τ * t) + β * (τ * τ)) (α * α * (τ * τ)) (numerator-least t τ α β p₂) (square-least t τ α r (part _ _ _)))
      (rw sixth at
      (regroup (t * t * t) q (den Q n) (num Q (t * t * t * (k * p₀) + r) n) (2 * (Q * Q) + 2 * (Q * r) + r * r) e (2 ^ 40)
      (sum-least q (t * t * t) (k * p₀) e r n Q-pos n40 c.level))))

  high : 2 ^ 31 * (t * t) * num Q ((k * t + τ) * P) n ≤ (P + theta_error * (t * t)) * den Q n
  high =
      rw (exponent-is t τ k p₀ p₁ p₂)
      (cancel-high (q * q) (t * t * (t * t)) (t * t) (P + theta_error * (t * t)) (den Q n) (num Q (t * t * t * (k * p₀) + r) n) (e + 1)
      (2 * (q * q) * few * (t * t) + 2 * q * few * (α * (τ * t) + (β + p₂) * (τ * τ)) + (few + 1) * ((α + (β + p₂)) * (α + (β + p₂)) * (τ * τ)))
      (few * (2 * (Q * Q) + 2 * (Q * r) + r * r) + r * r) few (mul-pos q0 q0) fourth-pos (lit< tt)
      (gather-high (2 ^ 10 * (q * q) * few) (2 * (q * q) * few) (2 * q * few) (t * t) (τ * t) (τ * τ) (e + 1) p₀ p₁ p₂ α (β + p₂) (few + 1)
      ((α + (β + p₂)) * (α + (β + p₂))) theta_error
      (abel t τ _ _ _ _ _ _ h c.high₀ c.high₁ c.high₂))
      (quadratic-most t q r (α * (τ * t) + (β + p₂) * (τ * τ)) ((α + (β + p₂)) * (α + (β + p₂)) * (τ * τ)) few (numerator-most t τ α β p₂ h)
      (square-most t τ (α + (β + p₂)) r (numerator-all t τ α β p₂ h)))
      (rw sixth at
      (regroup-high (t * t * t) q (den Q n) (num Q (t * t * t * (k * p₀) + r) n)
      (few * (2 * (Q * Q) + 2 * (Q * r) + r * r) + r * r) (e + 1) (2 ^ 40) few
      (sum-most q (t * t * t) (k * p₀) e r n Q-pos n40 c.level
      (small-numerator t τ q few (α + (β + p₂)) r h (numerator-all t τ α β p₂ h) c.small)))))

-- All cells.

-- just below 2⁴⁰·E(k·p₀/2⁴²), for k from 0 to 512
unfoldable levels : List ℕ
levels =
    1099511627776 ∷ 1100048892244 ∷ 1100586945198 ∷ 1101125788696 ∷ 1101665424806 ∷ 1102205855603 ∷
    1102747083172 ∷ 1103289109604 ∷ 1103831936996 ∷ 1104375567462 ∷ 1104920003112 ∷ 1105465246070 ∷
    1106011298473 ∷ 1106558162459 ∷ 1107105840176 ∷ 1107654333779 ∷ 1108203645442 ∷ 1108753777328 ∷
    1109304731625 ∷ 1109856510530 ∷ 1110409116232 ∷ 1110962550943 ∷ 1111516816878 ∷ 1112071916272 ∷
    1112627851351 ∷ 1113184624356 ∷ 1113742237542 ∷ 1114300693174 ∷ 1114859993513 ∷ 1115420140847 ∷
    1115981137462 ∷ 1116542985643 ∷ 1117105687715 ∷ 1117669245981 ∷ 1118233662760 ∷ 1118798940400 ∷
    1119365081237 ∷ 1119932087619 ∷ 1120499961920 ∷ 1121068706496 ∷ 1121638323740 ∷ 1122208816027 ∷
    1122780185779 ∷ 1123352435389 ∷ 1123925567278 ∷ 1124499583878 ∷ 1125074487631 ∷ 1125650280988 ∷
    1126226966387 ∷ 1126804546322 ∷ 1127383023262 ∷ 1127962399684 ∷ 1128542678115 ∷ 1129123861040 ∷
    1129705950978 ∷ 1130288950473 ∷ 1130872862052 ∷ 1131457688280 ∷ 1132043431705 ∷ 1132630094910 ∷
    1133217680464 ∷ 1133806190958 ∷ 1134395629024 ∷ 1134985997229 ∷ 1135577298243 ∷ 1136169534684 ∷
    1136762709196 ∷ 1137356824433 ∷ 1137951883078 ∷ 1138547887808 ∷ 1139144841308 ∷ 1139742746277 ∷
    1140341605442 ∷ 1140941421502 ∷ 1141542197245 ∷ 1142143935355 ∷ 1142746638642 ∷ 1143350309870 ∷
    1143954951794 ∷ 1144560567218 ∷ 1145167158982 ∷ 1145774729872 ∷ 1146383282730 ∷ 1146992820386 ∷
    1147603345704 ∷ 1148214861560 ∷ 1148827370820 ∷ 1149440876383 ∷ 1150055381161 ∷ 1150670888054 ∷
    1151287399997 ∷ 1151904919916 ∷ 1152523450792 ∷ 1153142995599 ∷ 1153763557271 ∷ 1154385138856 ∷
    1155007743311 ∷ 1155631373683 ∷ 1156256033006 ∷ 1156881724302 ∷ 1157508450654 ∷ 1158136215135 ∷
    1158765020803 ∷ 1159394870781 ∷ 1160025768154 ∷ 1160657716070 ∷ 1161290717693 ∷ 1161924776118 ∷
    1162559894562 ∷ 1163196076172 ∷ 1163833324165 ∷ 1164471641743 ∷ 1165111032121 ∷ 1165751498558 ∷
    1166393044294 ∷ 1167035672617 ∷ 1167679386764 ∷ 1168324190049 ∷ 1168970085831 ∷ 1169617077357 ∷
    1170265168015 ∷ 1170914361143 ∷ 1171564660124 ∷ 1172216068358 ∷ 1172868589225 ∷ 1173522226152 ∷
    1174176982549 ∷ 1174832861872 ∷ 1175489867591 ∷ 1176148003194 ∷ 1176807272181 ∷ 1177467678034 ∷
    1178129224319 ∷ 1178791914546 ∷ 1179455752277 ∷ 1180120741087 ∷ 1180786884605 ∷ 1181454186363 ∷
    1182122650096 ∷ 1182792279330 ∷ 1183463077830 ∷ 1184135049191 ∷ 1184808197134 ∷ 1185482525361 ∷
    1186158037627 ∷ 1186834737663 ∷ 1187512629220 ∷ 1188191716062 ∷ 1188872002048 ∷ 1189553490937 ∷
    1190236186581 ∷ 1190920092812 ∷ 1191605213517 ∷ 1192291552599 ∷ 1192979113981 ∷ 1193667901518 ∷
    1194357919207 ∷ 1195049170980 ∷ 1195741660825 ∷ 1196435392752 ∷ 1197130370785 ∷ 1197826598967 ∷
    1198524081315 ∷ 1199222821952 ∷ 1199922824930 ∷ 1200624094407 ∷ 1201326634516 ∷ 1202030449362 ∷
    1202735543206 ∷ 1203441920142 ∷ 1204149584469 ∷ 1204858540363 ∷ 1205568792163 ∷ 1206280344081 ∷
    1206993200399 ∷ 1207707365511 ∷ 1208422843688 ∷ 1209139639363 ∷ 1209857756845 ∷ 1210577200608 ∷
    1211297974998 ∷ 1212020084528 ∷ 1212743533684 ∷ 1213468326921 ∷ 1214194468762 ∷ 1214921963702 ∷
    1215650816409 ∷ 1216381031366 ∷ 1217112613179 ∷ 1217845566579 ∷ 1218579896109 ∷ 1219315606545 ∷
    1220052702469 ∷ 1220791188700 ∷ 1221531069970 ∷ 1222272350979 ∷ 1223015036610 ∷ 1223759131661 ∷
    1224504640949 ∷ 1225251569316 ∷ 1225999921734 ∷ 1226749703088 ∷ 1227500918285 ∷ 1228253572309 ∷
    1229007670227 ∷ 1229763216954 ∷ 1230520217602 ∷ 1231278677191 ∷ 1232038600878 ∷ 1232799993789 ∷
    1233562861011 ∷ 1234327207716 ∷ 1235093039216 ∷ 1235860360671 ∷ 1236629177325 ∷ 1237399494442 ∷
    1238171317436 ∷ 1238944651562 ∷ 1239719502283 ∷ 1240495874840 ∷ 1241273774808 ∷ 1242053207602 ∷
    1242834178664 ∷ 1243616693520 ∷ 1244400757787 ∷ 1245186376919 ∷ 1245973556649 ∷ 1246762302481 ∷
    1247552620137 ∷ 1248344515301 ∷ 1249137993752 ∷ 1249933061161 ∷ 1250729723360 ∷ 1251527986141 ∷
    1252327855324 ∷ 1253129336888 ∷ 1253932436642 ∷ 1254737160622 ∷ 1255543514692 ∷ 1256351504946 ∷
    1257161137369 ∷ 1257972418115 ∷ 1258785353227 ∷ 1259599948847 ∷ 1260416211144 ∷ 1261234146391 ∷
    1262053760745 ∷ 1262875060609 ∷ 1263698052129 ∷ 1264522741768 ∷ 1265349135875 ∷ 1266177240831 ∷
    1267007063192 ∷ 1267838609398 ∷ 1268671885924 ∷ 1269506899420 ∷ 1270343656422 ∷ 1271182163569 ∷
    1272022427610 ∷ 1272864455176 ∷ 1273708253079 ∷ 1274553828014 ∷ 1275401186936 ∷ 1276250336683 ∷
    1277101284047 ∷ 1277954036162 ∷ 1278808599810 ∷ 1279664982196 ∷ 1280523190324 ∷ 1281383231233 ∷
    1282245112233 ∷ 1283108840354 ∷ 1283974422898 ∷ 1284841867123 ∷ 1285711180322 ∷ 1286582369907 ∷
    1287455443323 ∷ 1288330407894 ∷ 1289207271138 ∷ 1290086040696 ∷ 1290966724080 ∷ 1291849328843 ∷
    1292733862818 ∷ 1293620333551 ∷ 1294508748871 ∷ 1295399116648 ∷ 1296291444624 ∷ 1297185740746 ∷
    1298082012918 ∷ 1298980269254 ∷ 1299880517736 ∷ 1300782766474 ∷ 1301687023532 ∷ 1302593297101 ∷
    1303501595585 ∷ 1304411927085 ∷ 1305324300004 ∷ 1306238722787 ∷ 1307155203923 ∷ 1308073751677 ∷
    1308994374802 ∷ 1309917081827 ∷ 1310841881504 ∷ 1311768782359 ∷ 1312697793234 ∷ 1313628923013 ∷
    1314562180538 ∷ 1315497574605 ∷ 1316435114418 ∷ 1317374808772 ∷ 1318316666968 ∷ 1319260698077 ∷
    1320206911308 ∷ 1321155315827 ∷ 1322105921127 ∷ 1323058736562 ∷ 1324013771440 ∷ 1324971035499 ∷
    1325930538047 ∷ 1326892288923 ∷ 1327856297631 ∷ 1328822574110 ∷ 1329791128061 ∷ 1330761969334 ∷
    1331735108025 ∷ 1332710553988 ∷ 1333688317327 ∷ 1334668408199 ∷ 1335650836813 ∷ 1336635613333 ∷
    1337622748278 ∷ 1338612252020 ∷ 1339604134886 ∷ 1340598407561 ∷ 1341595080584 ∷ 1342594164651 ∷
    1343595670516 ∷ 1344599608988 ∷ 1345605991040 ∷ 1346614827599 ∷ 1347626129753 ∷ 1348639908442 ∷
    1349656175082 ∷ 1350674940838 ∷ 1351696217038 ∷ 1352720015177 ∷ 1353746346600 ∷ 1354775223140 ∷
    1355806656158 ∷ 1356840657722 ∷ 1357877239319 ∷ 1358916413036 ∷ 1359958190922 ∷ 1361002584871 ∷
    1362049607060 ∷ 1363099269733 ∷ 1364151585311 ∷ 1365206566063 ∷ 1366264224657 ∷ 1367324573498 ∷
    1368387625280 ∷ 1369453392768 ∷ 1370521888798 ∷ 1371593126390 ∷ 1372667118521 ∷ 1373743878242 ∷
    1374823418903 ∷ 1375905753700 ∷ 1376990896131 ∷ 1378078859655 ∷ 1379169657807 ∷ 1380263304310 ∷
    1381359813083 ∷ 1382459197891 ∷ 1383561472807 ∷ 1384666651748 ∷ 1385774749185 ∷ 1386885779312 ∷
    1387999756404 ∷ 1389116695174 ∷ 1390236610180 ∷ 1391359516182 ∷ 1392485428025 ∷ 1393614360515 ∷
    1394746328908 ∷ 1395881348181 ∷ 1397019433885 ∷ 1398160601172 ∷ 1399304865769 ∷ 1400452243250 ∷
    1401602749277 ∷ 1402756399724 ∷ 1403913210809 ∷ 1405073198468 ∷ 1406236378979 ∷ 1407402768715 ∷
    1408572384143 ∷ 1409745241954 ∷ 1410921358807 ∷ 1412100751715 ∷ 1413283437533 ∷ 1414469433601 ∷
    1415658756973 ∷ 1416851425191 ∷ 1418047455770 ∷ 1419246866458 ∷ 1420449675110 ∷ 1421655899552 ∷
    1422865557981 ∷ 1424078668699 ∷ 1425295249986 ∷ 1426515320629 ∷ 1427738898993 ∷ 1428966004222 ∷
    1430196655169 ∷ 1431430871072 ∷ 1432668671283 ∷ 1433910075135 ∷ 1435155102212 ∷ 1436403772488 ∷
    1437656105923 ∷ 1438912122458 ∷ 1440171842568 ∷ 1441435286577 ∷ 1442702475209 ∷ 1443973429174 ∷
    1445248169448 ∷ 1446526717274 ∷ 1447809093886 ∷ 1449095320647 ∷ 1450385419615 ∷ 1451679412277 ∷
    1452977320961 ∷ 1454279167849 ∷ 1455584975258 ∷ 1456894765932 ∷ 1458208562609 ∷ 1459526388461 ∷
    1460848266510 ∷ 1462174220215 ∷ 1463504273325 ∷ 1464838449592 ∷ 1466176773065 ∷ 1467519268088 ∷
    1468865958864 ∷ 1470216870341 ∷ 1471572027326 ∷ 1472931454934 ∷ 1474295178586 ∷ 1475663223715 ∷
    1477035616216 ∷ 1478412382149 ∷ 1479793547741 ∷ 1481179139536 ∷ 1482569184250 ∷ 1483963708922 ∷
    1485362740764 ∷ 1486766307318 ∷ 1488174436303 ∷ 1489587155772 ∷ 1491004493803 ∷ 1492426479124 ∷
    1493853140493 ∷ 1495284507012 ∷ 1496720607974 ∷ 1498161472859 ∷ 1499607131660 ∷ 1501057614724 ∷
    1502512952280 ∷ 1503973175232 ∷ 1505438314691 ∷ 1506908401650 ∷ 1508383468276 ∷ 1509863546137 ∷
    1511348667665 ∷ 1512838865339 ∷ 1514334172350 ∷ 1515834621452 ∷ 1517340246769 ∷ 1518851081666 ∷
    1520367160723 ∷ 1521888518421 ∷ 1523415189476 ∷ 1524947209503 ∷ 1526484613857 ∷ 1528027438471 ∷
    1529575719856 ∷ 1531129494774 ∷ 1532688800067 ∷ 1534253673341 ∷ 1535824152459 ∷ 1537400275714 ∷
    1538982081492 ∷ 1540569609134 ∷ 1542162897905 ∷ 1543761987863 ∷ 1545366918997 ∷ 1546977732271 ∷
    1548594468584 ∷ 1550217169648 ∷ 1551845877466 ∷ 1553480634337 ∷ 1555121483564 ∷ 1556768468225 ∷
    1558421632233 ∷ 1560081019816 ∷ 1561746676048 ∷ 1563418645969 ∷ 1565096975659 ∷ 1566781711164 ∷
    1568472899407 ∷ 1570170587825 ∷ 1571874824018 ∷ []

-- the test at a cell, and at all
abbrev test_at : ℕ → ℕ → ℕ → ℕ → ℕ → Bool
test_at k p₀ p₁ p₂ e = cell_test (2 ^ 42) k p₀ p₁ p₂ (p₀ + k * p₁) (p₁ + k * p₂) e

abbrev cells_test : (ℕ → ℕ → ℕ → ℕ → ℕ → Bool) → ℕ → List (List ℕ) → List ℕ → Bool
cells_test f k cells [] = true
cells_test f k [] (e ∷ es) = false
cells_test f k (p ∷ ps) (e ∷ es) = both (f k (get_or p 0 0) (get_or p 1 0) (get_or p 2 0) e) (cells_test f (suc k) ps es)

-- the cells from i on
cells-from : (f : ℕ → ℕ → ℕ → ℕ → ℕ → Bool) (ps : List (List ℕ)) (es : List ℕ) (i : ℕ) → T (cells_test f i ps es) → (k : ℕ) → k < length es
    → T (f (i + k) (get_or (get_or ps k []) 0 0) (get_or (get_or ps k []) 1 0) (get_or (get_or ps k []) 2 0) (get_or es k 0))
cells-from f ps [] i t k h = absurd (not-suc-le-zero h)
cells-from f [] (e ∷ es) i t k h = absurd t
cells-from f (p ∷ ps) (e ∷ es) i t zero h =
    rw (add-zero i) (both_left (f i (get_or p 0 0) (get_or p 1 0) (get_or p 2 0) e) (cells_test f (suc i) ps es) t)
cells-from f (p ∷ ps) (e ∷ es) i t (suc k) h =
    let l : i + suc k ≡ suc i + k = omega arith in
    rw l
    (cells-from f ps es (suc i)
    (both_right (f i (get_or p 0 0) (get_or p 1 0) (get_or p 2 0) e) (cells_test f (suc i) ps es) t) k (le_of_suc-le-suc h))

cells-pass : T (cells_test test_at 0 thetas levels)
unfolding thetas levels cell_test
cells-pass = tt

levels-length : length levels ≡ 513
unfolding levels
levels-length = refl

-- every cell passes
passed : (k : ℕ) → k < 513
    → Passed (2 ^ 42) k (coefficient k 0) (coefficient k 1) (coefficient k 2)
    (coefficient k 0 + k * coefficient k 1) (coefficient k 1 + k * coefficient k 2) (get_or levels k 0)
passed k h =
    let z : 0 + k ≡ k = omega arith in
    cell-passed (2 ^ 42) k _ _ _ _ _ _ (omega arith) (rw z at (cells-from test_at thetas levels 0 cells-pass k (rw levels-length h)))

exponent-pos : 0 < 2 ^ 29 * 2 ^ 29 * 2 ^ 29 * 2 ^ 42
exponent-pos = mul-pos (mul-pos (mul-pos (two_pos 29) (two_pos 29)) (two_pos 29)) (two_pos 42)

-- as a fraction
abbrev value : ℕ → Fraction
value p = ratio p (2 ^ 31 * (2 ^ 29 * 2 ^ 29)) scale-pos

-- t·P, for t = k·2²⁹ + τ units of 2⁻⁴⁰
abbrev product : ℕ → ℕ → Fraction
product t p = ratio (t * p) (2 ^ 29 * 2 ^ 29 * 2 ^ 29 * 2 ^ 42) exponent-pos

E-ratio : (n r q : ℕ) (h : 0 < q) → E n (ratio r q h) ≈ᶠ ratio (num q r n) (den q n) (den_pos q n h)
unfolding ratio
E-ratio n r q h =
    let e : r - 0 ≡ r = omega arith in
    let f : 0 - r ≡ 0 = omega arith in
    ≈-trans (E-at n r 0 q h (≈-refl (ratio r q h))) (ratio-≈ _ _ _ _ (rw (e, f, num-zero) refl))

-- over bare numbers: p/d against the quotient
least-fraction : (n t p d q : ℕ) (d0 : 0 < d) (q0 : 0 < q) → p * den q n ≤ d * num q (t * p) n → ratio p d d0 ≤ᶠ E n (ratio (t * p) q q0)
least-fraction n t p d q d0 q0 h = ≤-by (≈-refl _) (E-ratio n (t * p) q q0) (ratio-≤ _ _ _ _ (omega (arith, h)))

most-fraction : (n t p w d q : ℕ) (d0 : 0 < d) (q0 : 0 < q) → d * num q (t * p) n ≤ w * den q n → E n (ratio (t * p) q q0) ≤ᶠ ratio w d d0
most-fraction n t p w d q d0 q0 h = ≤-by (E-ratio n (t * p) q q0) (≈-refl _) (ratio-≤ _ _ _ _ (omega (arith, h)))

module _ (n k τ : ℕ) (n40 : 40 ≤ n) (h : k < 513) (l : τ ≤ 2 ^ 29) where
  -- the low law of the table: P ≤ E(t·P)
  theta-low : value (on_cell_exact k τ) ≤ᶠ E n (product (k * 2 ^ 29 + τ) (on_cell_exact k τ))
  theta-low =
      least-fraction n (k * 2 ^ 29 + τ) (on_cell_exact k τ) _ _ scale-pos exponent-pos
      (low (2 ^ 29) (2 ^ 42) k _ _ _ _ τ n (two_pos 29) (two_pos 42) n40 l (passed k h))

  -- the high law: E(t·P) ≤ P and `theta_error` units of 2⁻³¹
  theta-high : E n (product (k * 2 ^ 29 + τ) (on_cell_exact k τ)) ≤ᶠ value (on_cell_exact k τ + theta_error * (2 ^ 29 * 2 ^ 29))
  theta-high =
      most-fraction n (k * 2 ^ 29 + τ) (on_cell_exact k τ) _ _ _ scale-pos exponent-pos
      (high (2 ^ 29) (2 ^ 42) k _ _ _ _ τ n (two_pos 29) (two_pos 42) n40 l (passed k h))

-- P is at most 23/16
sum-all : (t τ p₀ p₁ p₂ w : ℕ) → τ ≤ t → p₀ + p₁ + p₂ ≤ w → p₀ * (t * t) + p₁ * (τ * t) + p₂ * (τ * τ) ≤ w * (t * t)
sum-all t τ p₀ p₁ p₂ w h g =
    omega (arith, mul-le-mul_left (p₁ * t) h, mul-le-mul_left p₂ (mul-le-mul h h), mul-le-mul_left (t * t) g)

pub coefficients-most : (k : ℕ) → k < 513 → coefficient k 0 + coefficient k 1 + coefficient k 2 ≤ 23 * 2 ^ 27
coefficients-most k h = (passed k h).fits

exact-most : (k τ : ℕ) → k < 513 → τ ≤ 2 ^ 29 → on_cell_exact k τ ≤ 23 * 2 ^ 27 * (2 ^ 29 * 2 ^ 29)
exact-most k τ h l = sum-all (2 ^ 29) τ _ _ _ _ l (passed k h).fits

-- the computed value is P, rounded down by at most 2 units of 2⁻³¹
on_cell-below : (k τ : ℕ) → on_cell k τ * (2 ^ 29 * 2 ^ 29) ≤ on_cell_exact k τ
unfolding on_cell
on_cell-below k τ =
    let a : ℕ = coefficient k 2 * τ / 2 ^ 29 in
    rounded (2 ^ 29) τ (coefficient k 0) (coefficient k 1) (coefficient k 2) a ((coefficient k 1 + a) * τ / 2 ^ 29)
    (div-mul-le_self (coefficient k 2 * τ) (2 ^ 29)) (div-mul-le_self ((coefficient k 1 + a) * τ) (2 ^ 29))
  where
    rounded : (t τ p₀ p₁ p₂ a b : ℕ) → a * t ≤ p₂ * τ → b * t ≤ (p₁ + a) * τ → (p₀ + b) * (t * t) ≤ p₀ * (t * t) + p₁ * (τ * t) + p₂ * (τ * τ)
    rounded t τ p₀ p₁ p₂ a b h g = omega (arith, mul-le-mul_left τ h, mul-le-mul_left t g)

on_cell-above : (k τ : ℕ) → τ ≤ 2 ^ 29 → on_cell_exact k τ ≤ (on_cell k τ + 2) * (2 ^ 29 * 2 ^ 29)
unfolding on_cell
on_cell-above k τ l =
    let a : ℕ = coefficient k 2 * τ / 2 ^ 29 in
    rounded (2 ^ 29) τ (coefficient k 0) (coefficient k 1) (coefficient k 2) a ((coefficient k 1 + a) * τ / 2 ^ 29) l
    (next (coefficient k 2 * τ)) (next ((coefficient k 1 + a) * τ))
  where
    rounded : (t τ p₀ p₁ p₂ a b : ℕ) → τ ≤ t → p₂ * τ ≤ (a + 1) * t → (p₁ + a) * τ ≤ (b + 1) * t
        → p₀ * (t * t) + p₁ * (τ * t) + p₂ * (τ * τ) ≤ (p₀ + b + 2) * (t * t)
    rounded t τ p₀ p₁ p₂ a b l h g = omega (arith, mul-le-mul_left τ h, mul-le-mul_left t g, mul-le-mul_left t l)

    next : (x : ℕ) → x ≤ (x / 2 ^ 29 + 1) * 2 ^ 29
    next x = omega arith

-- At t, in units of 2⁻⁴⁰.

-- t·P as one fraction
product_is : (t p : ℕ) → units t *ᶠ value p ≈ᶠ product t p
product_is t p = ≈-trans (ratio-product t p unit-pos scale-pos) (ratio-≈ (t * p) (t * p) _ exponent-pos refl)

-- the table's error, 2⁻²⁷, is 8192 units
error-apart : (p : ℕ) → value (p + theta_error * (2 ^ 29 * 2 ^ 29)) ≤ᶠ value p +ᶠ units 8192
error-apart p =
    ≤_trans (≈→≥ (ratio-sum p (theta_error * (2 ^ 29 * 2 ^ 29)) _ scale-pos))
    (+-mono (≤-refl (value p)) (ratio-≤ _ _ scale-pos unit-pos (lit≤ tt)))

module _ (t : ℕ) (h : t ≤ 2 ^ 38) where
  cell_below : t / 2 ^ 29 < 513
  cell_below = omega arith

  rest-most : t % 2 ^ 29 ≤ 2 ^ 29
  rest-most = omega arith

  t-is : t / 2 ^ 29 * 2 ^ 29 + t % 2 ^ 29 ≡ t
  t-is = omega arith

  -- P ≤ E(t·P)
  pub theta-least : (n : ℕ) → 40 ≤ n → theta_exact t ≤ᶠ E n (units t *ᶠ theta_exact t)
  unfolding theta_exact
  theta-least n n40 =
      ≤_trans (rw t-is at (theta-low n (t / 2 ^ 29) (t % 2 ^ 29) n40 cell_below rest-most)) (E-mono n (≈→≥ (product_is t _)))

  -- E(t·P) ≤ P + 2⁻²⁷
  pub theta-near : (n : ℕ) → 40 ≤ n → E n (units t *ᶠ theta_exact t) ≤ᶠ theta_exact t +ᶠ units 8192
  unfolding theta_exact
  theta-near n n40 =
      ≤_trans (E-mono n (≈→≤ (product_is t _)))
      (≤_trans (rw t-is at (theta-high n (t / 2 ^ 29) (t % 2 ^ 29) n40 cell_below rest-most)) (error-apart _))

  -- P ≤ 23/16
  pub theta-most : theta_exact t ≤ᶠ 14375 /10^ 4
  unfolding theta_exact ratio ◌/10^◌
  theta-most = record { cross = omega (arith, exact-most (t / 2 ^ 29) (t % 2 ^ 29) cell_below rest-most) }

-- the computed value is P, rounded down twice
pub theta-rounded : (t : ℕ) → Within (2 ^ 31) (theta t) 2 (theta_exact t)
unfolding theta theta_exact ratio
theta-rounded t = record {
  above = omega (arith, on_cell-below (t / 2 ^ 29) (t % 2 ^ 29));
  below = omega (arith, on_cell-above (t / 2 ^ 29) (t % 2 ^ 29) (omega arith));
}
