-- The tail of the truncated exponential: what one sum and its last term say of every longer sum, and the test that computes it.
use mathlib.Core.Bool.{Bool}
use mathlib.Core.Path.{◌≡◌}
use Prim.Native.Nat.{ℕ, zero, suc, ◌+◌, ◌*◌, ◌^◌, ◌-◌, ◌≤◌, ◌<◌}
use native.Mathlib.Nat.{pow-zero, pow-suc, add-suc, add-zero, add-sub_of_le, le_dest, mul-le-mul_left, mul-pos}
use native.Mathlib.Nat.{le_of_mul-le-mul_left, le_refl, le_trans, le_of_lt, sub-pos_iff_lt}
use native.Mathlib.Omega.{arith}
use lib.Dec.{T, leb, leb→le}
use Rattle.bounds.proofs.Product.{den, acc, num, den_pos, num-two, den-two, num-grow}
use Rattle.bounds.proofs.Table.{both, both_left, both_right}

-- b·Sₙ + a·tₙ over the denominator of Sₙ, with tₙ the last term
unfoldable pub top : ℕ → ℕ → ℕ → ℕ → ℕ → ℕ
top q p a b n = b * num q p n + a * p ^ n

-- one step of it over bare numbers
top-step : (d s x w e v a b p : ℕ) → d * (b * s + a * x) ≤ e * v → (a + b) * p ≤ a * w → d * (b * (w * s + x * p) + a * (x * p)) ≤ w * e * v
top-step d s x w e v a b p h l = omega (arith, mul-le-mul_left w h, mul-le-mul_left (d * x) l)

-- from N on Sₙ + (a/b)·tₙ does not grow
top-falls : (q p a b N : ℕ) → (a + b) * p ≤ a * (q * suc N) → (k : ℕ) → den q N * top q p a b (N + k) ≤ den q (N + k) * top q p a b N
unfolding top num den acc
top-falls q p a b N h zero = rw add-zero (le_refl _)
top-falls q p a b N h (suc k) =
    rw (add-suc, pow-suc)
    (top-step (den q N) (num q p (N + k)) (p ^ (N + k)) (q * suc (N + k)) (den q (N + k)) (top q p a b N) a b p
    (top-falls q p a b N h k) (le_trans h (mul-le-mul_left a (mul-le-mul_left q (omega arith)))))

-- Sₙ ≤ S_N + (a/b)·t_N for n ≥ N, where (a + b)·(p/q) ≤ a·(N + 1): from N on Sₙ + (a/b)·tₙ does not grow
pub tail : (q p a b N n : ℕ) → (a + b) * p ≤ a * (q * suc N) → N ≤ n → den q N * (b * num q p n) ≤ den q n * top q p a b N
unfolding top
tail q p a b N n h le =
    let d = le_dest le in
    let w = rw d.1 at (top-falls q p a b N h d.0) in
    omega arith

-- the tail after the square is at most the square's term over b
pub quadratic-tail : (q r b n : ℕ) → 2 ≤ n → (1 + b) * r ≤ q * 3
    → 2 * (q * q) * b * num q r n ≤ den q n * (b * (2 * (q * q) + 2 * (q * r) + r * r) + r * r)
unfolding top
quadratic-tail q r b n le t =
    let h : den q 2 * (b * num q r n) ≤ den q n * (b * num q r 2 + 1 * r ^ 2) = tail q r 1 b 2 n (omega (arith, t)) le in
    shape (2 * (q * q)) (num q r n) (den q n) (b * (2 * (q * q) + 2 * (q * r) + r * r)) (r * r)
    (rw (den-two q, num-two q r, square) at h)
  where
    square : r ^ 2 ≡ r * r
    square = rw (pow-suc r 1, pow-suc r 0, pow-zero r) (omega arith)

    shape : (u N D x y : ℕ) → u * (b * N) ≤ D * (x + 1 * y) → u * b * N ≤ D * (x + y)
    shape u N D x y h = omega (arith, h)

-- x·Sₙ(r/q) ≤ y·Sₙ(p/q) for every n ≥ N, as a comparison at N: the tail on the left is at most t_N·r/(q·(N + 1) − r).
-- Who opens it has opened all that it computes with.
unfoldable pub below_test : ℕ → ℕ → ℕ → ℕ → ℕ → ℕ → Bool
unfolding top num acc
below_test q N x r y p = leb (x * top q r r (q * suc N - r) N) (y * ((q * suc N - r) * num q p N))

-- the comparison at N, carried to n and freed of its common factor
cancel : (d b x s y u e v w : ℕ) → 0 < d * b → x * v ≤ y * (b * w) → d * (b * s) ≤ e * v → e * w ≤ d * u → x * s ≤ y * u
cancel d b x s y u e v w z c g l =
    le_of_mul-le-mul_left (omega (arith, mul-le-mul_left x g, mul-le-mul_left e c, mul-le-mul_left (y * b) l)) z

-- the comparison at N holds for every n ≥ N
pub below : (q N x r y p : ℕ) → 0 < q → r < q * suc N → T (below_test q N x r y p) → (n : ℕ) → N ≤ n → x * num q r n ≤ y * num q p n
unfolding below_test
below q N x r y p z h t n le =
    let b = q * suc N - r in
    let c : x * top q r r b N ≤ y * (b * num q p N) = leb→le _ _ t in
    let g : (r + b) * r ≤ r * (q * suc N) = rw (add-sub_of_le (le_of_lt h)) (omega arith) in
    cancel (den q N) b x (num q r n) y (num q p n) (den q n) (top q r r b N) (num q p N)
    (mul-pos (den_pos q N z) (sub-pos_iff_lt.1 h)) c (tail q r r b N n g le) (num-grow q p le)

-- t ≤ w·Eₙ((i − j)/q) ≤ t + 1 for every n ≥ N, where i or j is 0: Eₙ((i − j)/q) is num q i n / num q j n
pub record Near (q N w i j t : ℕ) : Type 0 where
  pub above : (n : ℕ) → N ≤ n → t * num q j n ≤ w * num q i n
  pub below : (n : ℕ) → N ≤ n → w * num q i n ≤ (t + 1) * num q j n

-- both bounds, each as one comparison at N
unfoldable pub near_test : ℕ → ℕ → ℕ → ℕ → ℕ → ℕ → Bool
unfolding below_test
near_test q N w i j t = both (below_test q N t j w i) (below_test q N w i (t + 1) j)

-- where the test passes the bounds hold for every n ≥ N
pub near : (q N w i j t : ℕ) → 0 < q → i < q * suc N → j < q * suc N → T (near_test q N w i j t) → Near q N w i j t
unfolding near_test
near q N w i j t z hi hj h =
    let a = below_test q N t j w i in
    let b = below_test q N w i (t + 1) j in
    record { above = below q N t j w i z hj (both_left a b h); below = below q N w i (t + 1) j z hi (both_right a b h) }
