-- E at the sum of an exponent of at most 0 and one of 0 or more lies between two products, for every n: E₂ₙ(z)·Eₙ(e) ≤ Eₙ(z + e) ≤ Eₙ(z)·E₂ₙ(e).
-- Assumes nothing.
use mathlib.Core.Path.{◌≡◌, refl}
use Prim.Native.Nat.{ℕ, ◌+◌, ◌*◌, ◌-◌, ◌≤◌, ◌<◌}
use native.Mathlib.Decide.{dec_le}
use native.Mathlib.Omega.{arith}
use native.Mathlib.Nat.{mul-pos, mul-le-mul_left, le_dest}
use Rattle.numbers.specs.Fraction.{Fraction, ◌≤ᶠ◌, ◌≈ᶠ◌, ◌+ᶠ◌, ◌*ᶠ◌, whole}
use Rattle.numbers.proofs.Order.{NonNegative, ≤-by, ≈-trans, +-cong, *-cong, ratio, ratio-≈, ratio-≤, ratio-product}
use Rattle.bounds.specs.Series.{E}
use Rattle.bounds.proofs.Product.{den, num, den_pos, num_pos, num-zero, num-grow, product-above, product-below}
use Rattle.bounds.proofs.Exponential.{E-at}

-- Over a common denominator q, with z = −u/q and e = d/q.
module _ (q : ℕ) (q0 : 0 < q) (u d n : ℕ) where
  -- a longer sum is not less
  longer : (p : ℕ) → den q (n + n) * num q p n ≤ den q n * num q p (n + n)
  longer p = num-grow q p {m = n} {n = n + n} (omega arith)

  least : den q (n + n) * num q d n * num q (u - d) n ≤ num q (d - u) n * (num q u (n + n) * den q n)
  least =
      elim (dec_le d u) [
        | yes h ↦
            let e : d - u ≡ 0 = omega arith in
            let f : u - d + d ≡ u = omega arith in
            rw (e, num-zero) (omega (arith, rw f at (product-below q (u - d) d n n)))
        | no h ↦
            let e : u - d ≡ 0 = omega arith in
            let f : u + (d - u) ≡ d = omega arith in
            rw (e, num-zero)
            (omega (arith, mul-le-mul_left (den q (n + n)) (rw f at (product-above q u (d - u) n)), mul-le-mul_left (num q (d - u) n) (longer u)))
      ]

  most : num q (d - u) n * (num q u n * den q (n + n)) ≤ den q n * num q d (n + n) * num q (u - d) n
  most =
      elim (dec_le d u) [
        | yes h ↦
            let e : d - u ≡ 0 = omega arith in
            let f : u - d + d ≡ u = omega arith in
            rw (e, num-zero)
            (omega (arith, mul-le-mul_left (den q (n + n)) (rw f at (product-above q (u - d) d n)), mul-le-mul_left (num q (u - d) n) (longer d)))
        | no h ↦
            let e : u - d ≡ 0 = omega arith in
            let f : d - u + u ≡ d = omega arith in
            rw (e, num-zero) (omega (arith, rw f at (product-below q (d - u) u n n)))
      ]

  -- −u/q
  abbrev below-0 : Fraction
  below-0 = record { up = 0; down = u; den = q; pos = q0 }

  E-below : (m : ℕ) {z : Fraction} → z ≈ᶠ below-0 → E m z ≈ᶠ ratio (den q m) (num q u m) (num_pos q u m q0)
  E-below m h =
      let e : 0 - u ≡ 0 = omega arith in
      let f : u - 0 ≡ u = omega arith in
      ≈-trans (E-at m 0 u q q0 h) (ratio-≈ _ _ _ _ (rw (e, f, num-zero) refl))

  E-above : (m : ℕ) {y : Fraction} → y ≈ᶠ ratio d q q0 → E m y ≈ᶠ ratio (num q d m) (den q m) (den_pos q m q0)
  unfolding ratio
  E-above m h =
      let e : d - 0 ≡ d = omega arith in
      let f : 0 - d ≡ 0 = omega arith in
      ≈-trans (E-at m d 0 q q0 h) (ratio-≈ _ _ _ _ (rw (e, f, num-zero) refl))

  -- −u/q + d/q
  plain : below-0 +ᶠ ratio d q q0 ≈ᶠ record { up = d; down = u; den = q; pos = q0 }
  unfolding ◌+ᶠ◌ ratio
  plain = record { cross = omega arith }

  sum_is : {z y : Fraction} → z ≈ᶠ below-0 → y ≈ᶠ ratio d q q0 → z +ᶠ y ≈ᶠ record { up = d; down = u; den = q; pos = q0 }
  sum_is h g = ≈-trans (+-cong h g) plain

  module _ {z y : Fraction} (hz : z ≈ᶠ below-0) (hy : y ≈ᶠ ratio d q q0) where
    product-least-at : E (n + n) z *ᶠ E n y ≤ᶠ E n (z +ᶠ y)
    product-least-at =
        ≤-by (≈-trans (*-cong (E-below (n + n) hz) (E-above n hy)) (ratio-product _ _ _ _)) (E-at n d u q q0 (sum_is hz hy))
        (ratio-≤ _ _ _ _ least)

    product-most-at : E n (z +ᶠ y) ≤ᶠ E n z *ᶠ E (n + n) y
    product-most-at =
        ≤-by (E-at n d u q q0 (sum_is hz hy)) (≈-trans (*-cong (E-below n hz) (E-above (n + n) hy)) (ratio-product _ _ _ _))
        (ratio-≤ _ _ _ _ most)

-- z ≤ 0 over a multiple of its denominator
negative-is : (z : Fraction) (u k q : ℕ) (p : 0 < q) → z.up + u ≡ z.down → q ≡ z.den * k
    → z ≈ᶠ record { up = 0; down = u * k; den = q; pos = p }
negative-is z u k q p e f = record { cross = rw (f, ← e) (omega arith) }

-- 0 ≤ y over a multiple of its denominator
positive-is : (y : Fraction) (d k q : ℕ) (p : 0 < q) → y.down + d ≡ y.up → q ≡ k * y.den → y ≈ᶠ ratio (d * k) q p
unfolding ratio
positive-is y d k q p e f = record { cross = rw (f, ← e) (omega arith) }

module _ (n : ℕ) (z y : Fraction) (hz : z ≤ᶠ whole 0) (hy : NonNegative y) where
  below_up : z.up ≤ z.down
  unfolding whole
  below_up = omega (arith, hz.cross)

  -- E₂ₙ(z)·Eₙ(y) ≤ Eₙ(z + y)
  pub product-least : E (n + n) z *ᶠ E n y ≤ᶠ E n (z +ᶠ y)
  product-least =
      let u = le_dest below_up in
      let d = le_dest hy.nonneg in
      let q0 : 0 < z.den * y.den = mul-pos z.pos y.pos in
      product-least-at (z.den * y.den) q0 (u.0 * y.den) (d.0 * z.den) n
      (negative-is z u.0 y.den _ q0 u.1 refl) (positive-is y d.0 z.den _ q0 d.1 refl)

  -- Eₙ(z + y) ≤ Eₙ(z)·E₂ₙ(y)
  pub product-most : E n (z +ᶠ y) ≤ᶠ E n z *ᶠ E (n + n) y
  product-most =
      let u = le_dest below_up in
      let d = le_dest hy.nonneg in
      let q0 : 0 < z.den * y.den = mul-pos z.pos y.pos in
      product-most-at (z.den * y.den) q0 (u.0 * y.den) (d.0 * z.den) n
      (negative-is z u.0 y.den _ q0 u.1 refl) (positive-is y d.0 z.den _ q0 d.1 refl)
