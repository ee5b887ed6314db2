-- Bounds of E at a sum of exponents, from bounds at its parts: what a product of table entries and a short polynomial says of E,
-- for every n of 40 or more. Scales and denominators are parameters.
use mathlib.Core.Path.{◌≡◌, refl}
use Prim.Native.Nat.{ℕ, ◌+◌, ◌*◌, ◌^◌, ◌-◌, ◌/◌, ◌≤◌, ◌<◌}
use native.Mathlib.Decide.{dec_le}
use native.Mathlib.Omega.{arith}
use native.Mathlib.Nat.{pow-zero, pow-suc, mul-zero, mul-sub, mul-pos, mul-le-mul, mul-le-mul_left, mul-le-mul_right, one-le-pow}
use native.Mathlib.Nat.{le_of_mul-le-mul_left, le_of_mul-le-mul_right, le_trans, div-mul-le_self, lt-div-mul-add}
use Rattle.bounds.specs.Enclosure.{Within}
use Rattle.numbers.proofs.Order.{via}
use Rattle.bounds.proofs.Within.{ratio-within}
use Rattle.bounds.proofs.Product.{den, acc, num, den_pos, num-zero, num-two, den-two, num-scale, den-scale, product-above, product-below}
use Rattle.bounds.proofs.Tail.{Near, top, tail, quadratic-tail}
use Rattle.bounds.proofs.Exponential.{quotient}
use Rattle.bounds.proofs.Entries.{from}

-- Two factors w₁·E(c) ≈ x₁ and w₂·S(d) ≈ x₂ over the denominator q.
module _ (q : ℕ) (q0 : 0 < q) (w₁ x₁ w₂ x₂ : ℕ) where
  -- E(c + d) ≤ E(c)·S(d) for 0 ≤ c
  plus-below : (c d n : ℕ) → w₁ * num q c n ≤ x₁ * den q n → w₂ * num q d n ≤ x₂ * den q n → w₁ * w₂ * num q (c + d) n ≤ x₁ * x₂ * den q n
  plus-below c d n g h =
      le_of_mul-le-mul_left (omega (arith, mul-le-mul_left (w₁ * w₂) (product-above q c d n), mul-le-mul g h)) (den_pos q n q0)

  -- E(−v) ≤ E(−(v + d))·S(d)
  minus-below : (v d n : ℕ) → w₁ * den q n ≤ x₁ * num q (v + d) n → w₂ * num q d n ≤ x₂ * den q n → w₁ * w₂ * den q n ≤ x₁ * x₂ * num q v n
  minus-below v d n g h =
      le_of_mul-le-mul_left
      (omega (arith, mul-le-mul_left (w₂ * den q n) g, mul-le-mul_left (x₁ * w₂) (product-above q v d n), mul-le-mul_left (x₁ * num q v n) h))
      (den_pos q n q0)

  -- E(c)·S(d) ≤ E(c + d) for 0 ≤ c
  plus-above : (c d n m : ℕ) → x₁ * den q n ≤ w₁ * num q c n → x₂ * den q m ≤ w₂ * num q d m
      → x₁ * x₂ * den q (n + m) ≤ w₁ * w₂ * num q (c + d) (n + m)
  plus-above c d n m g h =
      le_of_mul-le-mul_left
      (omega (arith, mul-le-mul_left (w₁ * w₂) (product-below q c d n m), mul-le-mul_left (den q (n + m)) (mul-le-mul g h)))
      (mul-pos (den_pos q n q0) (den_pos q m q0))

  -- E(−(v + d))·S(d) ≤ E(−v)
  minus-above : (v d n m : ℕ) → x₁ * num q (v + d) (n + m) ≤ w₁ * den q (n + m) → x₂ * den q m ≤ w₂ * num q d m
      → x₁ * x₂ * num q v n ≤ w₁ * w₂ * den q n
  minus-above v d n m g h =
      le_of_mul-le-mul_left
      (omega (
        arith,
        mul-le-mul_left (w₂ * (den q n * den q m)) g,
        mul-le-mul_left (x₁ * w₂) (product-below q v d n m),
        mul-le-mul_left (x₁ * num q v n * den q (n + m)) h,
      ))
      (mul-pos (den_pos q m q0) (den_pos q (n + m) q0))

-- A small exponent d/q of 0 or more: lo ≤ w·Sₖ(d/q), and w·Sₙ(d/q) ≤ lo + v for every n ≥ 40.
pub record Small (q k w d lo v : ℕ) : Type 0 where
  pub above : lo * den q k ≤ w * num q d k
  pub below : (n : ℕ) → 40 ≤ n → w * num q d n ≤ (lo + v) * den q n

-- the sum of two small exponents
pub small-sum : {q k w d lo v k' w' d' lo' v' : ℕ} → 0 < q → Small q k w d lo v → Small q k' w' d' lo' v'
    → Small q (k + k') (w * w') (d + d') (lo * lo') (lo * v' + lo' * v + v * v')
small-sum {q} {k} {w} {d} {lo} {v} {k'} {w'} {d'} {lo'} {v'} q0 a b = record {
  above = plus-above q q0 w lo w' lo' d d' k k' a.above b.above;
  below = λ n h. le_trans (plus-below q q0 w (lo + v) w' (lo' + v') d d' n (a.below n h) (b.below n h)) (omega arith);
}

-- over another denominator
pub small-scale : (c : ℕ) {q k w d lo v : ℕ} → Small q k w d lo v → Small (c * q) k w (c * d) lo v
small-scale c {q} {k} {w} {d} {lo} {v} a = record {
  above = rw (num-scale c q d k, den-scale c q k) (omega (arith, mul-le-mul_left (c ^ k) a.above));
  below = λ n h. rw (num-scale c q d n, den-scale c q n) (omega (arith, mul-le-mul_left (c ^ n) (a.below n h)));
}

-- cut to a coarser scale
pub small-round : {q k w d lo v : ℕ} (c : ℕ) → 0 < c → Small q k (w * c) d lo v → Small q k w d (lo / c) (v / c + 2)
small-round {q} {k} {w} {d} {lo} {v} c c0 a = record {
  above = le_of_mul-le-mul_right {k = c} (omega (arith, a.above, mul-le-mul_right (den q k) (div-mul-le_self lo c))) c0;
  below =
      λ n h. le_of_mul-le-mul_right {k = c}
      (omega (
        arith,
        a.below n h,
        mul-le-mul_right (den q n) (lt-div-mul-add {a = lo} c0),
        mul-le-mul_right (den q n) (lt-div-mul-add {a = v} c0),
      )) c0;
}

-- a larger width
pub small-widen : {q k w d lo v u : ℕ} → Small q k w d lo v → v ≤ u → Small q k w d lo u
small-widen {q} {lo = lo} {v = v} {u = u} a l =
    let g : lo + v ≤ lo + u = omega arith in
    record { above = a.above; below = λ n h. le_trans (a.below n h) (mul-le-mul_right (den q n) g) }

-- a lower bound below, an upper bound above
pub small-weaken : {q k w d lo v : ℕ} (lo' v' : ℕ) → Small q k w d lo v → lo' ≤ lo → lo + v ≤ lo' + v' → Small q k w d lo' v'
small-weaken {q} {k} lo' v' a h g = record {
  above = le_trans (mul-le-mul_right (den q k) h) a.above;
  below = λ n l. le_trans (a.below n l) (mul-le-mul_right (den q n) g);
}

-- over the denominator before a common factor
pub small-unscale : (c : ℕ) {q k w d lo v : ℕ} → 0 < c → Small (c * q) k w (c * d) lo v → Small q k w d lo v
small-unscale c {q} {k} {w} {d} {lo} {v} c0 a = record {
  above =
      le_of_mul-le-mul_left (omega (arith, rw (num-scale c q d k, den-scale c q k) at a.above)) (one-le-pow k c c0);
  below =
      λ n h. le_of_mul-le-mul_left (omega (arith, rw (num-scale c q d n, den-scale c q n) at (a.below n h))) (one-le-pow n c c0);
}

-- an entry of a table whose exponents are 0 or more
pub near-small : {q N w d t : ℕ} → N ≤ 40 → Near q N w (d - 0) (0 - d) t → Small q N w d t 1
near-small {q} {N} {w} {d} {t} h a =
    let e : d - 0 ≡ d = omega arith in
    let f : 0 - d ≡ 0 = omega arith in
    record {
      above = rw (e, f, num-zero) at (a.above N (omega arith));
      below = λ n l. rw (e, f, num-zero) at (a.below n (omega arith));
    }

-- an entry that is cut to a unit c times as large is just below E in that unit
pub near-cut : {q N w i j t : ℕ} (c : ℕ) → 0 < c → Near q N (w * c) i j t → Near q N w i j (t / c)
near-cut {q} {N} {w} {i} {j} {t} c c0 a = record {
  above =
      λ n h. le_of_mul-le-mul_right {k = c} (omega (arith, a.above n h, mul-le-mul_right (num q j n) (div-mul-le_self t c))) c0;
  below =
      λ n h. le_of_mul-le-mul_right {k = c} (omega (arith, a.below n h, mul-le-mul_right (num q j n) (lt-div-mul-add {a = t} c0))) c0;
}

-- a bound over the denominator q is one over c·q
rescale : (c q x j w i n : ℕ) → x * num q j n ≤ w * num q i n → x * num (c * q) (c * j) n ≤ w * num (c * q) (c * i) n
rescale c q x j w i n h = rw (num-scale c q j n, num-scale c q i n) (omega (arith, mul-le-mul_left (c ^ n) h))

-- An entry t just below W·E at a multiple of 1/q, and a small exponent d/(c·q) with its product lo.
module _ (q c d k W w lo v t : ℕ) (q0 : 0 < c * q) (s : Small (c * q) k w d lo v) where
  -- the exponent (c·i + d)/(c·q)
  entry-plus-below : (i n : ℕ) → 40 ≤ n → W * num q i n ≤ (t + 1) * num q 0 n
      → W * w * num (c * q) (c * i + d) n ≤ (t + 1) * (lo + v) * num (c * q) 0 n
  entry-plus-below i n l h =
      rw num-zero
      (plus-below (c * q) q0 W (t + 1) w (lo + v) (c * i) d n (rw (mul-zero, num-zero) at (rescale c q W i (t + 1) 0 n h)) (s.below n l))

  -- from below
  entry-plus-above : (i n : ℕ) → t * num q 0 n ≤ W * num q i n → t * lo * num (c * q) 0 (n + k) ≤ W * w * num (c * q) (c * i + d) (n + k)
  entry-plus-above i n h =
      rw num-zero
      (plus-above (c * q) q0 W t w lo (c * i) d n k (rw (mul-zero, num-zero) at (rescale c q t 0 W i n h)) s.above)

  -- the exponent −u/(c·q), where u + d = c·j
  entry-minus-below : (u j n : ℕ) → u + d ≡ c * j → 40 ≤ n → W * num q 0 n ≤ (t + 1) * num q j n
      → W * w * num (c * q) 0 n ≤ (t + 1) * (lo + v) * num (c * q) u n
  entry-minus-below u j n e l h =
      rw num-zero
      (minus-below (c * q) q0 W (t + 1) w (lo + v) u d n (rw (mul-zero, num-zero, ← e) at (rescale c q W 0 (t + 1) j n h)) (s.below n l))

  -- from below
  entry-minus-above : (u j n : ℕ) → u + d ≡ c * j → t * num q j (n + k) ≤ W * num q 0 (n + k)
      → t * lo * num (c * q) u n ≤ W * w * num (c * q) 0 n
  entry-minus-above u j n e h =
      rw num-zero
      (minus-above (c * q) q0 W t w lo u d n k (rw (mul-zero, num-zero, ← e) at (rescale c q t j W 0 (n + k) h)) s.above)

-- the two bounds on W·w·E((x − c·o)/(c·q))
record Bounded (q o c x n W low high : ℕ) : Type 0 where
  above : low * num (c * q) (c * o - x) n ≤ W * num (c * q) (x - c * o) n
  below : W * num (c * q) (x - c * o) n ≤ high * num (c * q) (c * o - x) n

module _ (q o c a d k W w lo v t n : ℕ) (q0 : 0 < c * q) (dc : d < c) (few : k ≤ 11) (l : 40 ≤ n)
    (e : Near q (from o a) W (a - o) (o - a) t) (s : Small (c * q) k w d lo v) where
  -- an entry at an exponent of 0 or more
  bounded-plus : o ≤ a → Bounded q o c (c * a + d) n (W * w) (t * lo) ((t + 1) * (lo + v))
  unfolding from
  bounded-plus h =
      let m : ℕ = n - k in
      let e₁ : o - a ≡ 0 = omega arith in
      let e₂ : m + k ≡ n = omega arith in
      let g : c * o ≤ c * a = mul-le-mul_left c h in
      let e₃ : c * o - (c * a + d) ≡ 0 = omega arith in
      let e₄ : c * a + d - c * o ≡ c * (a - o) + d = rw mul-sub (omega arith) in
      record {
        above =
            rw (e₃, e₄) (rw e₂ at (entry-plus-above q c d k W w lo v t q0 s (a - o) m (rw e₁ at (e.above m (omega arith)))));
        below = rw (e₃, e₄) (entry-plus-below q c d k W w lo v t q0 s (a - o) n l (rw e₁ at (e.below n (omega arith))));
      }

  -- an entry at a negative exponent: so is the sum
  bounded-minus : ¬ (o ≤ a) → Bounded q o c (c * a + d) n (W * w) (t * lo) ((t + 1) * (lo + v))
  unfolding from
  bounded-minus h =
      let u : ℕ = c * o - (c * a + d) in
      let j : a + 1 ≤ o = omega arith in
      let e₁ : a - o ≡ 0 = omega arith in
      let g : c * (a + 1) ≤ c * o = mul-le-mul_left c j in
      let e₃ : c * a + d - c * o ≡ 0 = omega arith in
      let e₄ : u + d ≡ c * (o - a) = rw mul-sub (omega arith) in
      record {
        above =
            rw e₃ (entry-minus-above q c d k W w lo v t q0 s u (o - a) n e₄ (rw e₁ at (e.above (n + k) (omega arith))));
        below = rw e₃ (entry-minus-below q c d k W w lo v t q0 s u (o - a) n e₄ l (rw e₁ at (e.below n (omega arith))));
      }

  -- t·lo encloses W·w·E((c·a + d − c·o)/(c·q)): the entry's exponent is (a − o)/q, and d/(c·q) is added to it
  pub composed : Within (W * w) (t * lo) (t * v + lo + v) (quotient n (c * a + d) (c * o) (c * q) q0)
  composed =
      let b : Bounded q o c (c * a + d) n (W * w) (t * lo) ((t + 1) * (lo + v)) =
      elim (dec_le o a) [ yes h ↦ bounded-plus h | no h ↦ bounded-minus h ] in
      ratio-within _ _ _ (omega (arith, b.above)) (omega (arith, b.below))

-- The quadratic 1 + ρ + ρ²/2 at ρ = r/q, with w·ρ known as g and w·ρ²/2 as c.

-- w + g + c ≤ w·S₂(ρ)
quadratic-above : (q w r g c : ℕ) → 0 < w → g * q ≤ w * r → c * (2 * w) ≤ g * g → (w + g + c) * den q 2 ≤ w * num q r 2
quadratic-above q w r g c w0 h k =
    rw (den-two q, num-two q r)
    (le_of_mul-le-mul_right {k = w} (omega (arith, mul-le-mul_left (2 * q * w) h, mul-le-mul h h, mul-le-mul_left (q * q) k)) w0)

-- x = w·q·r and y = w·r², in units of u = q²: rounding ρ, rounding ρ²/2 and the tail cost 1, 5/4 and 11/4 at most
quadratic-units : (u b w g c x y : ℕ) → x ≤ (g + 1) * u → 4 * y ≤ (4 * c + 5) * (2 * u) → 4 * c + 5 ≤ 11 * b
    → b * (2 * u * w + 2 * x + y) + y ≤ (w + g + c + 5) * (2 * u * b)
quadratic-units u b w g c x y h k l =
    omega (arith, mul-le-mul_left b h, mul-le-mul_left b k, mul-le-mul_left (2 * u) l)

-- w·Sₙ(ρ) ≤ w + g + c + 5
quadratic-below : (q w r g c b n : ℕ) → 0 < q → 0 < w → 0 < b → 2 ≤ n → (1 + b) * r ≤ q * 3 → w * r ≤ (g + 1) * q
    → 4 * ((g + 1) * (g + 1)) ≤ (4 * c + 5) * (2 * w) → 4 * c + 5 ≤ 11 * b
    → w * num q r n ≤ (w + g + c + 5) * den q n
quadratic-below q w r g c b n q0 w0 b0 le t h k l =
    cancel (2 * (q * q) * b) (b * (2 * (q * q) + 2 * (q * r) + r * r) + r * r) (num q r n) (den q n) (w + g + c + 5)
    (mul-pos (mul-pos (omega arith) (mul-pos q0 q0)) b0) (quadratic-tail q r b n le t)
    (via (quadratic-units (q * q) b w g c (q * r * w) (w * (r * r)) (omega (arith, mul-le-mul_left q h)) y l) (omega arith) refl)
  where
    y : 4 * (w * (r * r)) ≤ (4 * c + 5) * (2 * (q * q))
    y = le_of_mul-le-mul_right {k = w} (omega (arith, mul-le-mul h h, mul-le-mul_left (q * q) k)) w0

    cancel : (K x N D z : ℕ) → 0 < K → K * N ≤ D * x → w * x ≤ z * K → w * N ≤ z * D
    cancel K x N D z p a b = le_of_mul-le-mul_right {k = K} (omega (arith, mul-le-mul_left w a, mul-le-mul_left D b)) p

-- w + g + c is within 5 of w·E(r/q), where the tail after the square is at most the square's term over b
pub quadratic-small : (q w r g c b : ℕ) → 0 < q → 0 < w → 0 < b → g * q ≤ w * r → w * r ≤ (g + 1) * q → c * (2 * w) ≤ g * g
    → 4 * ((g + 1) * (g + 1)) ≤ (4 * c + 5) * (2 * w)
    → (1 + b) * r ≤ q * 3 → 4 * c + 5 ≤ 11 * b → Small q 2 w r (w + g + c) 5
quadratic-small q w r g c b q0 w0 b0 g₁ g₂ c₁ c₂ t l = record {
  above = quadratic-above q w r g c w0 g₁ c₁;
  below = λ n h. quadratic-below q w r g c b n q0 w0 b0 (omega arith) t g₂ c₂ l;
}

-- The line 1 + ρ at ρ = r/q, with w·ρ known as lo − w.

-- q·S₁(r/q)
num-one : (q r : ℕ) → num q r 1 ≡ q + r
unfolding num acc
num-one q r = rw (pow-suc r 0, pow-zero r) (omega arith)

-- q
den-one : (q : ℕ) → den q 1 ≡ q
unfolding den
den-one q = omega arith

-- the tail after ρ is at most ρ/b
linear-tail : (q r b n : ℕ) → 1 ≤ n → (1 + b) * r ≤ q * 2 → q * b * num q r n ≤ den q n * (b * (q + r) + r)
unfolding top
linear-tail q r b n le t =
    let h : den q 1 * (b * num q r n) ≤ den q n * (b * num q r 1 + 1 * r ^ 1) = tail q r 1 b 1 n (omega (arith, t)) le in
    omega (arith, rw (den-one q, num-one q r, pow-suc r 0, pow-zero r) at h)

-- lo is within v of w·E(r/q), where the tail after ρ is at most ρ over b
pub linear-small : (q w r lo v b : ℕ) → 0 < q → 0 < b → (1 + b) * r ≤ q * 2 → lo * q ≤ w * (q + r)
    → w * (b * (q + r) + r) ≤ (lo + v) * (q * b)
    → Small q 1 w r lo v
linear-small q w r lo v b q0 b0 t h g = record {
  above = rw (den-one q, num-one q r) h;
  below = λ n l. cancel (q * b) (b * (q + r) + r) (num q r n) (den q n) (lo + v) (mul-pos q0 b0) (linear-tail q r b n (omega arith) t) g;
}
  where
    cancel : (K x N D z : ℕ) → 0 < K → K * N ≤ D * x → w * x ≤ z * K → w * N ≤ z * D
    cancel K x N D z p a b = le_of_mul-le-mul_right {k = K} (omega (arith, mul-le-mul_left w a, mul-le-mul_left D b)) p
