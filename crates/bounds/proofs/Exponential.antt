-- The laws of the truncated exponential over fractions: growth, products, the tail, one formula for both signs, and the tangent.
use mathlib.Core.Bool.{Bool, true, false}
use mathlib.Core.Path.{◌≡◌, refl, ap, subst}
use Prim.Native.Nat.{ℕ, suc, zero, ◌+◌, ◌*◌, ◌-◌, ◌^◌, ◌≤◌, ◌<◌, max}
use native.Mathlib.Decide.{dec_le}
use native.Mathlib.Omega.{arith}
use native.Mathlib.Nat.{pow-zero, mul_comm, mul-pos, mul-le-mul_right, mul-le-mul_left, mul-le-mul}
use native.Mathlib.Nat.{le_of_mul-le-mul_right, le_dest, le_of_lt, lt_of_not-le}
use lib.Dec.{T}
use Rattle.numbers.specs.Fraction.{Fraction, ◌≤ᶠ◌, ◌≈ᶠ◌, ◌+ᶠ◌, negᶠ, ◌*ᶠ◌, whole, ◌/10^◌, ten-pos, inverse}
use Rattle.bounds.specs.Series.{S, E, term, factorial}
use Rattle.numbers.proofs.Order.{NonNegative, Positive, sub-mul, ratio, ratio-≤, ratio-≈, ratio-positive, ratio-sum}
use Rattle.numbers.proofs.Order.{ratio-one, NonNegative-is, decimal-is, ≤_trans, ≤-by, ≈→≤, ≈-refl, ≈-sym, ≈-trans}
use Rattle.numbers.proofs.Order.{+-cong, *-cong, ^-cong, over-cong, neg-cong, inverse-cong, test-cases, test-cong}
use Rattle.numbers.proofs.Order.{non_negative, neg-positive, positive→NonNegative, positive-cong}
use Rattle.bounds.proofs.Product.{den, acc, num, num-mono, num-zero, num_pos, den_pos, product-above, product-below, series-is}
use Rattle.bounds.proofs.Tail.{top, tail, below_test, below}

-- Sums.

-- equal arguments have equal terms
term-cong : {x y : Fraction} (i : ℕ) → x ≈ᶠ y → term x i ≈ᶠ term y i
unfolding term
term-cong i h = over-cong (factorial i) (^-cong i h)

-- equal arguments have equal sums
S-cong : {x y : Fraction} (n : ℕ) → x ≈ᶠ y → S n x ≈ᶠ S n y
unfolding S
S-cong zero h = term-cong 0 h
S-cong (suc n) h = +-cong (S-cong n h) (term-cong (suc n) h)

-- Sₙ(y) for y = p/q
S-at : (n p q : ℕ) (h : 0 < q) {y : Fraction} → y ≈ᶠ ratio p q h → S n y ≈ᶠ ratio (num q p n) (den q n) (den_pos q n h)
S-at n p q h e = ≈-trans (S-cong n e) (series-is p q h n)

-- 0 < Sₙ(x) for 0 ≤ x
S-positive : {x : Fraction} (n : ℕ) → NonNegative x → Positive (S n x)
S-positive {x} n h =
    positive-cong (≈-sym (S-at n _ _ _ (NonNegative-is x h))) (ratio-positive _ (num_pos x.den (x.up - x.down) n x.pos))

-- Two values of 0 or more over one denominator.

-- x over a multiple of its denominator
multiple-is : (x : Fraction) (k q : ℕ) (p : 0 < q) → q ≡ x.den * k → NonNegative x → x ≈ᶠ ratio ((x.up - x.down) * k) q p
unfolding ratio
multiple-is x k q p e h =
    record { cross = rw e (simp sub-mul (omega (arith, mul-le-mul_right (k * x.den) h.nonneg))) }

-- x over the denominators of x and y
left_is : (x y : Fraction) → NonNegative x → x ≈ᶠ ratio ((x.up - x.down) * y.den) (x.den * y.den) (mul-pos x.pos y.pos)
left_is x y h = multiple-is x y.den _ _ refl h

-- y over the denominators of x and y
right_is : (x y : Fraction) → NonNegative y → y ≈ᶠ ratio ((y.up - y.down) * x.den) (x.den * y.den) (mul-pos x.pos y.pos)
right_is x y h = multiple-is y x.den _ _ (mul_comm x.den y.den) h

module _ (x y : Fraction) (hx : NonNegative x) (hy : NonNegative y) where
  -- x + y
  sum_is : x +ᶠ y ≈ᶠ ratio ((x.up - x.down) * y.den + (y.up - y.down) * x.den) (x.den * y.den) (mul-pos x.pos y.pos)
  sum_is = ≈-trans (+-cong (left_is x y hx) (right_is x y hy)) (ratio-sum _ _ _ _)

-- u·d ≤ a·b gives u/d ≤ (a/d)·(b/d)
ratio-product-above : (u a b d : ℕ) (h : 0 < d) → d * u ≤ a * b → ratio u d h ≤ᶠ ratio a d h *ᶠ ratio b d h
unfolding ratio ◌*ᶠ◌
ratio-product-above u a b d h l = omega (arith, mul-le-mul_right d l)

-- a·b·e ≤ c·d·u gives (a/c)·(b/d) ≤ u/e
ratio-product-below : (u a b c d e : ℕ) (h : 0 < c) (k : 0 < d) (l : 0 < e) → a * b * e ≤ c * d * u
    → ratio a c h *ᶠ ratio b d k ≤ᶠ ratio u e l
unfolding ratio ◌*ᶠ◌
ratio-product-below u a b c d e h k l le = omega (arith, le)

-- Sₙ(x + y) ≤ Sₙ(x)·Sₙ(y) for 0 ≤ x, y
pub S-product-above : (x y : Fraction) (n : ℕ) → NonNegative x → NonNegative y → S n (x +ᶠ y) ≤ᶠ S n x *ᶠ S n y
S-product-above x y n hx hy =
    ≤-by (S-at n _ _ _ (sum_is x y hx hy)) (*-cong (S-at n _ _ _ (left_is x y hx)) (S-at n _ _ _ (right_is x y hy)))
    (ratio-product-above _ _ _ _ _ (product-above _ _ _ n))

-- Sₙ(x)·Sₘ(y) ≤ Sₙ₊ₘ(x + y) for 0 ≤ x, y
pub S-product-below : (x y : Fraction) (n m : ℕ) → NonNegative x → NonNegative y → S n x *ᶠ S m y ≤ᶠ S (n + m) (x +ᶠ y)
S-product-below x y n m hx hy =
    ≤-by (*-cong (S-at n _ _ _ (left_is x y hx)) (S-at m _ _ _ (right_is x y hy))) (S-at (n + m) _ _ _ (sum_is x y hx hy))
    (ratio-product-below _ _ _ _ _ _ _ _ _ (product-below _ _ _ n m))

-- The tail.

-- Both signs.

-- equal exponents have equal E
pub E-cong : {x y : Fraction} (n : ℕ) → x ≈ᶠ y → E n x ≈ᶠ E n y
unfolding E
E-cong {x} {y} n h =
    subst (λ (c : Bool). E n x ≈ᶠ elim c [ true ↦ S n y | false ↦ inverse (S n (negᶠ y)) ]) (test-cong (≈-refl (whole 0)) h)
    (test-cases
    (λ (c : Bool).
    elim c [ true ↦ S n x | false ↦ inverse (S n (negᶠ x)) ] ≈ᶠ elim c [ true ↦ S n y | false ↦ inverse (S n (negᶠ y)) ])
    (whole 0) x (λ l. S-cong n h)
    (λ l. inverse-cong (S-positive n (positive→NonNegative (neg-positive l))) (S-cong n (neg-cong h))))

-- num q (i ∸ j) n / num q (j ∸ i) n, of which one is Sₙ at |i − j|/q and the other Sₙ(0)
abbrev pub quotient : (n i j q : ℕ) → 0 < q → Fraction
quotient n i j q h = ratio (num q (i - j) n) (num q (j - i) n) (num_pos q (j - i) n h)

-- the inverse of a/b is b/a
inverse-ratio : (a b : ℕ) (h : 0 < b) (k : 0 < a) → inverse (ratio a b h) ≈ᶠ ratio b a k
unfolding inverse ratio
inverse-ratio a b h k = let e : max 1 (a - 0) ≡ a = omega arith in record { cross = rw e (omega arith) }

-- where i ≤ j, over the denominator of Sₙ
ratio-zero : (q i j n : ℕ) (h : 0 < q) → i ≤ j → ratio (den q n) (num q (j - i) n) (num_pos q (j - i) n h) ≈ᶠ quotient n i j q h
ratio-zero q i j n h l = let z : i - j ≡ 0 = omega arith in ratio-≈ _ _ _ _ (rw (z, num-zero q n))

-- one formula for both signs: Eₙ((i − j)/q) = num q (i ∸ j) n / num q (j ∸ i) n
pub E-is : (n : ℕ) (y : Fraction) → E n y ≈ᶠ quotient n y.up y.down y.den y.pos
unfolding E negᶠ
E-is n y =
    test-cases
    (λ (c : Bool). elim c [ true ↦ S n y | false ↦ inverse (S n (negᶠ y)) ] ≈ᶠ quotient n y.up y.down y.den y.pos)
    (whole 0) y (λ l. plus (non_negative l)) (λ l. minus (positive→NonNegative (neg-positive l)))
  where
    plus : NonNegative y → S n y ≈ᶠ quotient n y.up y.down y.den y.pos
    plus h =
        let z : y.down - y.up ≡ 0 = omega arith in
        ≈-trans (S-at n _ _ _ (NonNegative-is y h)) (ratio-≈ _ _ _ _ (rw (z, num-zero y.den n)))

    minus : NonNegative (negᶠ y) → inverse (S n (negᶠ y)) ≈ᶠ quotient n y.up y.down y.den y.pos
    minus h =
        ≈-trans (inverse-cong (S-positive n h) (S-at n _ _ _ (NonNegative-is (negᶠ y) h)))
        (≈-trans (inverse-ratio _ _ _ _) (ratio-zero y.den y.up y.down n y.pos h.nonneg))

-- at any way to write y as (i − j)/q
pub E-at : (n i j q : ℕ) (h : 0 < q) {y : Fraction} → y ≈ᶠ record { up = i; down = j; den = q; pos = h } → E n y ≈ᶠ quotient n i j q h
E-at n i j q h e = ≈-trans (E-cong n e) (E-is n (record { up = i; down = j; den = q; pos = h }))

-- 0 < Eₙ(y)
pub E-positive : (n : ℕ) (y : Fraction) → Positive (E n y)
E-positive n y = positive-cong (≈-sym (E-is n y)) (ratio-positive _ (num_pos y.den (y.up - y.down) n y.pos))

-- Eₙ(0) = 1
pub E-zero : (n : ℕ) → E n (whole 0) ≈ᶠ whole 1
unfolding whole
E-zero n = ≈-trans (E-is n (whole 0)) (ratio-one (num 1 0 n) _)

-- Eₙ(x) ≤ Eₙ(y) for x ≤ y
pub E-mono : {x y : Fraction} (n : ℕ) → x ≤ᶠ y → E n x ≤ᶠ E n y
E-mono {x} {y} n h =
    let q : ℕ = x.den * y.den in
    let i : ℕ = x.up * y.den in
    let j : ℕ = x.down * y.den in
    let i' : ℕ = y.up * x.den in
    let j' : ℕ = y.down * x.den in
    let p : 0 < q = mul-pos x.pos y.pos in
    let le : i + j' ≤ i' + j = h.cross in
    ≤-by (E-at n i j q p (omega arith)) (E-at n i' j' q p (omega arith))
    (ratio-≤ _ _ _ _ (mul-le-mul (num-mono q {p = i - j} {r = i' - j'} n (omega arith)) (num-mono q {p = j' - i'} {r = j - i} n (omega arith))))

-- at r/q
E-ratio : (n r q : ℕ) (h : 0 < q) → E n (ratio r q h) ≈ᶠ ratio (num q r n) (num q 0 n) (num_pos q 0 n h)
unfolding ratio
E-ratio n r q h =
    let e : r - 0 ≡ r = omega arith in
    let f : 0 - r ≡ 0 = omega arith in
    ≈-trans (E-at n r 0 q h (≈-refl (ratio r q h))) (ratio-≈ _ _ _ _ (rw (e, f)))

-- Eₙ(r/q) ≤ a/b for every n ≥ N, from one computed comparison at N
pub E-≤-ratio : (N r q a b : ℕ) (h : 0 < q) (p : 0 < b) → r < q * suc N → T (below_test q N b r a 0) → (n : ℕ) → N ≤ n
    → E n (ratio r q h) ≤ᶠ ratio a b p
E-≤-ratio N r q a b h p l t n le =
    ≤-by (E-ratio n r q h) (≈-refl _) (ratio-≤ _ _ _ _ (omega (arith, below q N b r a 0 h l t n le)))

-- a/b ≤ Eₙ(r/q)
pub ratio-≤-E : (N r q a b : ℕ) (h : 0 < q) (p : 0 < b) → T (below_test q N a 0 b r) → (n : ℕ) → N ≤ n → ratio a b p ≤ᶠ E n (ratio r q h)
ratio-≤-E N r q a b h p t n le =
    ≤-by (≈-refl _) (E-ratio n r q h)
    (ratio-≤ _ _ _ _ (omega (arith, below q N a 0 b r h (mul-pos h (omega arith)) t n le)))

-- Eₙ(z) ≤ bound·10⁻ᵈⁱᵍⁱᵗˢ for every n ≥ N and every z ≤ last·10⁻ᵖˡᵃᶜᵉˢ, from one computed comparison at N
pub E-below : (N last places bound digits : ℕ) → last < 10 ^ places * suc N → T (below_test (10 ^ places) N (10 ^ digits) last bound 0)
    → {z : Fraction} (n : ℕ) → N ≤ n → z ≤ᶠ last /10^ places → E n z ≤ᶠ bound /10^ digits
E-below N last places bound digits h t n le l =
    ≤-by (≈-refl _) (decimal-is bound digits)
    (≤_trans (E-mono n (≤_trans l (≈→≤ (decimal-is last places)))) (E-≤-ratio N last _ bound _ (ten-pos places) (ten-pos digits) h t n le))

-- The tangent: over a step e, E grows by no more than e·E at its end.

-- Sₙ(c) ≤ Sₙ(a)·Sₙ(b) for c ≤ a + b
num-split : (q a b c n : ℕ) → c ≤ a + b → num q c n * den q n ≤ num q a n * num q b n
num-split q a b c n h = omega (arith, mul-le-mul_right (den q n) (num-mono q n h), product-above q a b n)

-- Sₙ(e)·(1 − e) ≤ 1 over the denominator c + e
geometric : (c e n : ℕ) → c * num (c + e) e n ≤ (c + e) * den (c + e) n
unfolding top num acc den
geometric c e n = omega (arith, rw (pow-zero e) at (tail (c + e) e e c 0 n (omega arith) (omega arith)))

-- the same over any denominator q = c + e
num-geometric : (q e c n : ℕ) → c + e ≡ q → c * num q e n ≤ q * den q n
num-geometric q e c n h = rw h at (geometric c e n)

-- four bounds multiplied
step-product : (q c u v u' v' D s t A B : ℕ) → q * c ≤ A * B → u * D ≤ u' * s → v * D ≤ v' * t → A * s ≤ q * D → B * t ≤ q * D
    → c * (u * v) * (q * (D * D)) ≤ q * (u' * v') * (q * (D * D))
step-product q c u v u' v' D s t A B l a b g h =
    omega (arith, mul-le-mul_right (u * D * (v * D)) l, mul-le-mul_left (A * B) (mul-le-mul a b), mul-le-mul_left (u' * v') (mul-le-mul g h))

-- (1 − e₁ − e₂)·u·v ≤ u'·v' for u ≤ u'·S(e₁) and v ≤ v'·S(e₂)
step : (q e₁ e₂ c u v u' v' D s t : ℕ) → 0 < q → 0 < D → c + e₁ + e₂ ≡ q → u * D ≤ u' * s → v * D ≤ v' * t
    → (c + e₂) * s ≤ q * D → (c + e₁) * t ≤ q * D → c * (u * v) ≤ q * (u' * v')
step q e₁ e₂ c u v u' v' D s t q0 D0 h a b g k =
    let l : q * c ≤ (c + e₂) * (c + e₁) = rw (← h) (omega arith) in
    le_of_mul-le-mul_right {k = q * (D * D)} (step-product q c u v u' v' D s t (c + e₂) (c + e₁) l a b g k)
    (mul-pos q0 (mul-pos D0 D0))

-- for Sₙ at i/q, j/q and the two shifted by e₁/q and e₂/q
step-num : (q i i' j j' e₁ e₂ c n : ℕ) → 0 < q → i + e₁ ≡ i' → j' + e₂ ≡ j → c + e₁ + e₂ ≡ q
    → c * (num q i' n * num q j n) ≤ q * (num q i n * num q j' n)
step-num q i i' j j' e₁ e₂ c n q0 a b t =
    step q e₁ e₂ c (num q i' n) (num q j n) (num q i n) (num q j' n) (den q n) (num q e₁ n) (num q e₂ n) q0 (den_pos q n q0) t
    (num-split q i e₁ i' n (omega arith)) (num-split q j' e₂ j n (omega arith))
    (num-geometric q e₁ (c + e₂) n (omega arith)) (num-geometric q e₂ (c + e₁) n (omega arith))

-- c·w ≤ q·z with c = q − e
close : (c e q w z : ℕ) → e + c ≡ q → c * w ≤ q * z → q * w ≤ q * z + e * w
close c e q w z f h = omega (arith, ap (λ (k : ℕ). k * w) f)

-- of a step e from i − j, e₁ is taken on the positive side and e₂ on the negative
parts : (i j e c q e₁ e₂ : ℕ) → i - j + e₁ ≡ i + e - j → j - (i + e) + e₂ ≡ j - i → e + c ≡ q → c + e₁ + e₂ ≡ q
parts i j e c q e₁ e₂ a b f = omega arith

-- the tangent at z = (i − j)/q over the step e/q, without a case on the signs of z and z + e/q
tangent-num : (q i j e n : ℕ) → 0 < q
    → q * (num q (i + e - j) n * num q (j - i) n) ≤ q * (num q (i - j) n * num q (j - (i + e)) n) + e * (num q (i + e - j) n * num q (j - i) n)
tangent-num q i j e n q0 =
    elim (dec_le q e) [
      | yes h ↦ omega (arith, mul-le-mul_right (num q (i + e - j) n * num q (j - i) n) h)
      | no h ↦
          let a : i - j ≤ i + e - j = omega arith in
          let b : j - (i + e) ≤ j - i = omega arith in
          let (c, f) = le_dest (le_of_lt (lt_of_not-le h)) in
          let (e₁, g) = le_dest a in
          let (e₂, k) = le_dest b in
          close c e q _ _ f
          (step-num q (i - j) (i + e - j) (j - i) (j - (i + e)) e₁ e₂ c n q0 g k (parts i j e c q e₁ e₂ g k f))
    ]

-- the tangent as a law of fractions
ratio-tangent : (q e a b c d : ℕ) (q0 : 0 < q) (b0 : 0 < b) (d0 : 0 < d) → q * (a * d) ≤ q * (c * b) + e * (a * d)
    → ratio a b b0 ≤ᶠ ratio c d d0 +ᶠ ratio e q q0 *ᶠ ratio a b b0
unfolding ratio ◌+ᶠ◌ ◌*ᶠ◌
ratio-tangent q e a b c d q0 b0 d0 h = omega (arith, mul-le-mul_right b h)

-- z + d/(z.den·b)
add-ratio : (z : Fraction) (b d : ℕ) (p : 0 < z.den * b)
    → z +ᶠ ratio d (z.den * b) p ≈ᶠ record { up = z.up * b + d; down = z.down * b; den = z.den * b; pos = p }
unfolding ◌+ᶠ◌ ratio
add-ratio z b d p = omega arith

-- Eₙ(z + e) ≤ Eₙ(z) + e·Eₙ(z + e) for 0 ≤ e
pub E-tangent : (n : ℕ) (z e : Fraction) → NonNegative e → E n (z +ᶠ e) ≤ᶠ E n z +ᶠ e *ᶠ E n (z +ᶠ e)
E-tangent n z e h =
    let q : ℕ = z.den * e.den in
    let q0 : 0 < q = mul-pos z.pos e.pos in
    let i : ℕ = z.up * e.den in
    let j : ℕ = z.down * e.den in
    let d : ℕ = (e.up - e.down) * z.den in
    let r = right_is z e h in
    let s = E-at n (i + d) j q q0 (≈-trans (+-cong (≈-refl z) r) (add-ratio z e.den d q0)) in
    ≤-by s (+-cong (E-at n i j q q0 (omega arith)) (*-cong r s))
    (ratio-tangent q d _ _ _ _ q0 _ _ (tangent-num q i j d n q0))
