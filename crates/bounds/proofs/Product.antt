-- The truncated exponential over one denominator, and its product laws:
-- Sₙ(x + y) ≤ Sₙ(x)·Sₙ(y) and Sₙ(x)·Sₘ(y) ≤ Sₙ₊ₘ(x + y) for x, y of 0 or more.
-- Over the denominator qⁿ·n! the series of p/q has a natural numerator. A product of two series is taken by Leibniz' rule for the
-- n-th derivative of a product, so no binomial coefficient and no double sum is needed.
use mathlib.Core.Path.{◌≡◌, refl, sym, ◌∙◌}
use Prim.Native.Nat.{ℕ, zero, suc, ◌+◌, ◌*◌, ◌^◌, ◌≤◌, ◌<◌, zero-le}
use native.Mathlib.Nat.{pow-suc, pow-succ', pow-zero, add-suc, add-zero, le_dest, mul-le-mul_left, mul-le-mul_right}
use native.Mathlib.Nat.{mul-pos, not-suc-le-zero, le_of_suc-le-suc, le_refl, le_trans, one-le-pow, pow-le-pow_left}
use native.Mathlib.Omega.{arith}
use Rattle.std.proofs.lemmas.Nat.{mul-pow}
use Rattle.numbers.specs.Fraction.{◌≈ᶠ◌, ◌+ᶠ◌, ◌*ᶠ◌, ◌^ᶠ◌, ◌over◌, whole}
use Rattle.bounds.specs.Series.{S, term, factorial}
use Rattle.numbers.proofs.Order.{ratio, idle, ≈-refl, ≈-trans, +-cong, *-cong, over-cong}

-- qⁿ·n!
unfoldable pub den : ℕ → ℕ → ℕ
den q zero = 1
den q (suc n) = q * suc n * den q n

-- qⁿ·n! times the sum of f(i)/(qⁱ·i!) for i up to n
unfoldable pub acc : ℕ → (ℕ → ℕ) → ℕ → ℕ
acc q f zero = f 0
acc q f (suc n) = q * suc n * acc q f n + f (suc n)

-- Sₙ(p/q) times qⁿ·n!
unfoldable pub num : ℕ → ℕ → ℕ → ℕ
num q p n = acc q (λ i. p ^ i) n

-- the n-th derivative of a product of two functions whose derivatives are f and g
unfoldable bin : (ℕ → ℕ) → (ℕ → ℕ) → ℕ → ℕ
bin f g zero = f 0 * g 0
bin f g (suc n) = bin (λ i. f (suc i)) g n + bin f (λ i. g (suc i)) n

-- Leibniz' product.

-- the product depends on the values of its factors alone
bin-ext : (f g h k : ℕ → ℕ) → ((i : ℕ) → f i ≡ h i) → ((i : ℕ) → g i ≡ k i) → (n : ℕ) → bin f g n ≡ bin h k n
unfolding bin
bin-ext f g h k p q zero = rw (p 0, q 0)
bin-ext f g h k p q (suc n) =
    let a = bin-ext (λ i. f (suc i)) g (λ i. h (suc i)) k (λ i. p (suc i)) q n in
    let b = bin-ext f (λ i. g (suc i)) h (λ i. k (suc i)) p (λ i. q (suc i)) n in
    omega arith

-- and is a sum where its second factor is
bin-add : (f g h : ℕ → ℕ) (n : ℕ) → bin f (λ i. g i + h i) n ≡ bin f g n + bin f h n
unfolding bin
bin-add f g h zero = omega arith
bin-add f g h (suc n) =
    let a = bin-add (λ i. f (suc i)) g h n in
    let b = bin-add f (λ i. g (suc i)) (λ i. h (suc i)) n in
    omega arith

-- a constant of the second factor goes out
bin-scale : (c : ℕ) (f g : ℕ → ℕ) (n : ℕ) → bin f (λ i. c * g i) n ≡ c * bin f g n
unfolding bin
bin-scale c f g zero = omega arith
bin-scale c f g (suc n) =
    let a = bin-scale c (λ i. f (suc i)) g n in
    let b = bin-scale c f (λ i. g (suc i)) n in
    omega arith

-- and one of the first
bin-scale-left : (c : ℕ) (f g : ℕ → ℕ) (n : ℕ) → bin (λ i. c * f i) g n ≡ c * bin f g n
unfolding bin
bin-scale-left c f g zero = omega arith
bin-scale-left c f g (suc n) =
    let a = bin-scale-left c (λ i. f (suc i)) g n in
    let b = bin-scale-left c f (λ i. g (suc i)) n in
    omega arith

-- products compare as their terms do
bin-mono : (u v : ℕ) (f g h k : ℕ → ℕ) (n : ℕ) → ((i j : ℕ) → i + j ≡ n → u * (f i * g j) ≤ v * (h i * k j)) → u * bin f g n ≤ v * bin h k n
unfolding bin
bin-mono u v f g h k zero le = le 0 0 refl
bin-mono u v f g h k (suc n) le =
    let a = bin-mono u v (λ i. f (suc i)) g (λ i. h (suc i)) k n (λ i j e. le (suc i) j (omega arith)) in
    let b = bin-mono u v f (λ i. g (suc i)) h (λ i. k (suc i)) n (λ i j e. le i (suc j) (omega arith)) in
    omega arith

-- the binomial theorem: powers multiply to the powers of the sum
bin-pow : (p r n : ℕ) → bin (λ i. p ^ i) (λ i. r ^ i) n ≡ (p + r) ^ n
unfolding bin
bin-pow p r zero = simp pow-zero
bin-pow p r (suc n) =
    simp pow-succ'
    (rw (bin-scale-left p (λ i. p ^ i) (λ i. r ^ i) n, bin-scale r (λ i. p ^ i) (λ i. r ^ i) n, bin-pow p r n) (omega arith))

-- Summing a series is a product with one: acc q (bin f g) = bin f (acc q g).

-- the derivatives at 0 of x·g(x)
shift : (ℕ → ℕ) → ℕ → ℕ
shift g zero = 0
shift g (suc n) = suc n * g n

-- x·g has the derivative g + x·g'
shift-tail : (g : ℕ → ℕ) (i : ℕ) → suc i * g i ≡ g i + shift (λ j. g (suc j)) i
unfolding shift
shift-tail g zero = omega arith
shift-tail g (suc i) = omega arith

-- x·(f·g)' = x·f'·g + x·f·g'
shift-sum : (f g : ℕ → ℕ) (n : ℕ) → shift (bin (λ i. f (suc i)) g) n + shift (bin f (λ i. g (suc i))) n ≡ n * bin f g n
unfolding shift bin
shift-sum f g zero = omega arith
shift-sum f g (suc n) = omega arith

-- f·(x·g) = x·(f·g)
shift-bin : (f g : ℕ → ℕ) (n : ℕ) → bin f (shift g) n ≡ shift (bin f g) n
unfolding bin shift
shift-bin f g zero = omega arith
shift-bin f g (suc n) =
    let a = shift-bin (λ i. f (suc i)) g n in
    let b = shift-bin f (λ i. g (suc i)) n in
    let c = bin-ext f (λ i. suc i * g i) f (λ i. g i + shift (λ j. g (suc j)) i) (λ i. refl) (shift-tail g) n in
    let d = bin-add f g (shift (λ j. g (suc j))) n in
    omega (arith, shift-sum f g n)

-- a sum a of f satisfies a = f + q·x·a
acc-shift : (q : ℕ) (f : ℕ → ℕ) (n : ℕ) → acc q f n ≡ f n + q * shift (acc q f) n
unfolding acc shift
acc-shift q f zero = omega arith
acc-shift q f (suc n) = omega arith

-- and is the only sequence that does
acc-unique : (q : ℕ) (f a : ℕ → ℕ) → ((n : ℕ) → a n ≡ f n + q * shift a n) → (n : ℕ) → a n ≡ acc q f n
unfolding acc shift
acc-unique q f a h zero = omega (arith, h 0)
acc-unique q f a h (suc n) = rw (← acc-unique q f a h n) (omega (arith, h (suc n)))

-- summing after multiplying by f, or before
acc-bin : (q : ℕ) (f g : ℕ → ℕ) (n : ℕ) → bin f (acc q g) n ≡ acc q (bin f g) n
acc-bin q f g =
    acc-unique q (bin f g) (bin f (acc q g))
    (λ n.
    bin-ext f (acc q g) f (λ i. g i + q * shift (acc q g) i) (λ i. refl) (acc-shift q g) n
    ∙ bin-add f g (λ i. q * shift (acc q g) i) n
    ∙ rw (bin-scale q f (shift (acc q g)) n, shift-bin f (acc q g) n))

-- series with the same first terms have the same sums
acc-first : (q : ℕ) (f g : ℕ → ℕ) (n : ℕ) → ((i : ℕ) → i ≤ n → f i ≡ g i) → acc q f n ≡ acc q g n
unfolding acc
acc-first q f g zero h = h 0 (le_refl _)
acc-first q f g (suc n) h = rw (acc-first q f g n (λ i l. h i (omega arith)), h (suc n) (le_refl _))

-- and so series with the same terms
acc-ext : (q : ℕ) (f g : ℕ → ℕ) → ((i : ℕ) → f i ≡ g i) → (n : ℕ) → acc q f n ≡ acc q g n
acc-ext q f g h n = acc-first q f g n (λ i l. h i)

-- Sₙ((p + r)/q) as the powers of p with the sums of the powers of r
num-add : (q p r n : ℕ) → num q (p + r) n ≡ bin (λ i. p ^ i) (acc q (λ i. r ^ i)) n
unfolding num
num-add q p r n =
    acc-ext q (λ i. (p + r) ^ i) (bin (λ i. p ^ i) (λ i. r ^ i)) (λ i. sym (bin-pow p r i)) n
    ∙ sym (acc-bin q (λ i. p ^ i) (λ i. r ^ i) n)

-- Growth with n.

-- a sum of k terms more is no smaller
acc-grow : (q : ℕ) (f : ℕ → ℕ) (m k : ℕ) → den q (m + k) * acc q f m ≤ den q m * acc q f (m + k)
unfolding den acc
acc-grow q f m zero = rw add-zero (le_refl _)
acc-grow q f m (suc k) = rw add-suc (omega (arith, mul-le-mul_left (q * suc (m + k)) (acc-grow q f m k)))

-- a longer sum is no smaller
acc-le : (q : ℕ) (f : ℕ → ℕ) {m n : ℕ} → m ≤ n → den q n * acc q f m ≤ den q m * acc q f n
acc-le q f {m} {n} h = let d = le_dest h in rw d.1 at (acc-grow q f m d.0)

-- Sₘ(p/q) ≤ Sₙ(p/q) where m ≤ n
pub num-grow : (q p : ℕ) {m n : ℕ} → m ≤ n → den q n * num q p m ≤ den q m * num q p n
unfolding num
num-grow q p h = acc-le q (λ i. p ^ i) h

-- The product from above.

-- den is the series of 1, 0, 0, ..
unit : ℕ → ℕ
unit zero = 1
unit (suc n) = 0

-- its sums are qⁿ·n!
den-unit : (q n : ℕ) → den q n ≡ acc q unit n
unfolding den acc unit
den-unit q zero = refl
den-unit q (suc n) = rw (den-unit q n) (omega arith)

-- f·0 = 0
bin-zero : (f : ℕ → ℕ) (n : ℕ) → bin f (λ i. 0) n ≡ 0
unfolding bin
bin-zero f zero = omega arith
bin-zero f (suc n) = omega (arith, bin-zero (λ i. f (suc i)) n, bin-zero f n)

-- f·1 = f
bin-unit : (f : ℕ → ℕ) (n : ℕ) → bin f unit n ≡ f n
unfolding bin unit
bin-unit f zero = omega arith
bin-unit f (suc n) = omega (arith, bin-unit (λ i. f (suc i)) n, bin-zero f n)

-- summing f is multiplying it by the series of 1, 0, 0, ..
bin-den : (q : ℕ) (f : ℕ → ℕ) (n : ℕ) → bin f (den q) n ≡ acc q f n
bin-den q f n =
    bin-ext f (den q) f (acc q unit) (λ i. refl) (den-unit q) n
    ∙ acc-bin q f unit n
    ∙ acc-ext q (bin f unit) f (bin-unit f) n

-- Sₙ(x + y) ≤ Sₙ(x)·Sₙ(y) for x = p/q, y = r/q
pub product-above : (q p r n : ℕ) → den q n * num q (p + r) n ≤ num q p n * num q r n
unfolding num
product-above q p r n =
    let P : ℕ → ℕ = λ i. p ^ i in
    let R : ℕ → ℕ = λ i. r ^ i in
    let a =
    bin-mono (den q n) (acc q R n) P (acc q R) P (den q) n
    (λ i j e. let h : j ≤ n = omega arith in omega (arith, mul-le-mul_left (p ^ i) (acc-le q R h))) in
    let b = rw (← num-add q p r n, bin-den q P n) at a in
    omega arith

-- The product from below.

-- the terms up to the n-th, and 0 from there on
cut : ℕ → (ℕ → ℕ) → ℕ → ℕ
cut zero f zero = f 0
cut zero f (suc i) = 0
cut (suc n) f zero = f 0
cut (suc n) f (suc i) = cut n (λ j. f (suc j)) i

-- nothing is cut up to n
cut_small : (n : ℕ) (f : ℕ → ℕ) (i : ℕ) → i ≤ n → cut n f i ≡ f i
unfolding cut
cut_small zero f zero h = refl
cut_small zero f (suc i) h = absurd (not-suc-le-zero h)
cut_small (suc n) f zero h = refl
cut_small (suc n) f (suc i) h = cut_small n (λ j. f (suc j)) i (le_of_suc-le-suc h)

-- cutting makes nothing larger
cut-le : (n : ℕ) (f : ℕ → ℕ) (i : ℕ) → cut n f i ≤ f i
unfolding cut
cut-le zero f zero = le_refl _
cut-le zero f (suc i) = zero-le
cut-le (suc n) f zero = le_refl _
cut-le (suc n) f (suc i) = cut-le n (λ j. f (suc j)) i

-- in a term i + j = n + m of a product that is not cut, j is at least m
cut-mul : (n : ℕ) (f : ℕ → ℕ) (m i j x y : ℕ) → i + j ≡ n + m → (m ≤ j → x ≤ y) → cut n f i * x ≤ cut n f i * y
unfolding cut
cut-mul zero f m zero j x y e h = mul-le-mul_left (f 0) (h (omega arith))
cut-mul zero f m (suc i) j x y e h = omega arith
cut-mul (suc n) f m zero j x y e h = mul-le-mul_left (f 0) (h (omega arith))
cut-mul (suc n) f m (suc i) j x y e h = cut-mul n (λ k. f (suc k)) m i j x y (omega arith) h

-- Sₙ(x)·Sₘ(y) ≤ Sₙ₊ₘ(x + y) for x = p/q, y = r/q
pub product-below : (q p r n m : ℕ) → num q p n * num q r m * den q (n + m) ≤ den q n * den q m * num q (p + r) (n + m)
unfolding num
product-below q p r n m =
    let P : ℕ → ℕ = λ i. p ^ i in
    let R : ℕ → ℕ = λ i. r ^ i in
    let C : ℕ → ℕ = cut n P in
    let a =
    bin-mono (acc q R m) (den q m) C (den q) C (acc q R) (n + m)
    (λ i j e.
    let w = cut-mul n P m i j (den q j * acc q R m) (den q m * acc q R j) e (λ h. acc-le q R h) in omega arith) in
    let b =
    bin-mono 1 1 C (acc q R) P (acc q R) (n + m)
    (λ i j e. let w = mul-le-mul_right (acc q R j) (cut-le n P i) in omega arith) in
    let c = rw (acc-first q C P n (cut_small n P)) at (acc-grow q C n m) in
    let a' = rw (bin-den q C (n + m)) at a in
    let b' = rw (← num-add q p r (n + m)) at b in
    omega (arith, mul-le-mul_left (acc q R m) c, mul-le-mul_left (den q n) a', mul-le-mul_left (den q n * den q m) b')

-- The argument.

-- 0 < qⁿ·n!
pub den_pos : (q n : ℕ) → 0 < q → 0 < den q n
unfolding den
den_pos q zero h = omega arith
den_pos q (suc n) h = mul-pos (mul-pos h (omega arith)) (den_pos q n h)

-- Sₙ grows with its argument
pub num-mono : (q : ℕ) {p r : ℕ} (n : ℕ) → p ≤ r → num q p n ≤ num q r n
unfolding num acc
num-mono q {p} {r} zero h = omega (arith, pow-zero p, pow-zero r)
num-mono q {p} {r} (suc n) h =
    omega (arith, mul-le-mul_left (q * suc n) (num-mono q n h), pow-le-pow_left h (suc n))

-- Sₙ(0) = 1
pub num-zero : (q n : ℕ) → num q 0 n ≡ den q n
unfolding num acc den
num-zero q zero = refl
num-zero q (suc n) = rw (num-zero q n, pow-suc 0 n) (omega arith)

-- q²·2·S₂(r/q)
pub num-two : (q r : ℕ) → num q r 2 ≡ 2 * (q * q) + 2 * (q * r) + r * r
unfolding num acc
num-two q r = rw (pow-zero r, pow-suc r 1, pow-suc r 0, pow-zero r) (omega arith)

-- q²·2
pub den-two : (q : ℕ) → den q 2 ≡ 2 * (q * q)
unfolding den
den-two q = omega arith

-- 0 < Sₙ(p/q)
pub num_pos : (q p n : ℕ) → 0 < q → 0 < num q p n
num_pos q p n h = le_trans (rw (num-zero q n) (den_pos q n h)) (num-mono q {p = 0} n (omega arith))

-- Sₙ(cp/cq) = Sₙ(p/q): the numerators
pub num-scale : (c q p n : ℕ) → num (c * q) (c * p) n ≡ c ^ n * num q p n
unfolding num acc
num-scale c q p zero = simp pow-zero
num-scale c q p (suc n) = rw (num-scale c q p n, mul-pow c p (suc n), pow-suc c n) (omega arith)

-- and the denominators
pub den-scale : (c q n : ℕ) → den (c * q) n ≡ c ^ n * den q n
unfolding den
den-scale c q zero = simp pow-zero
den-scale c q (suc n) = rw (den-scale c q n, pow-suc c n) (omega arith)

-- The sum of fractions over one denominator.

-- 0 < n!
factorial-pos : (n : ℕ) → 0 < factorial n
unfolding factorial
factorial-pos zero = omega arith
factorial-pos (suc n) = mul-pos (omega arith) (factorial-pos n)

-- den q n is qⁿ·n!
den-factorial : (q n : ℕ) → q ^ n * factorial n ≡ den q n
unfolding den factorial
den-factorial q zero = simp pow-zero
den-factorial q (suc n) = rw (← den-factorial q n, pow-suc q n) (omega arith)

-- (p/q)ⁱ = pⁱ/qⁱ
ratio-pow : (p q : ℕ) (h : 0 < q) (i : ℕ) → ratio p q h ^ᶠ i ≈ᶠ ratio (p ^ i) (q ^ i) (one-le-pow i q h)
unfolding ◌^ᶠ◌ ratio ◌*ᶠ◌ whole
ratio-pow p q h zero = record { cross = simp pow-zero }
ratio-pow p q h (suc i) =
    ≈-trans (*-cong (ratio-pow p q h i) (≈-refl (ratio p q h))) (record { cross = simp pow-suc (omega arith) })

-- pⁱ/qⁱ/i! over qⁱ·i!
ratio-over : (a b d k : ℕ) (h : 0 < b) (p : 0 < d) → 0 < k → b * k ≡ d → ratio a b h over k ≈ᶠ ratio a d p
unfolding ratio ◌over◌
ratio-over a b d k h p z e = record { cross = rw (idle z, e) (omega arith) }

-- (p/q)ⁱ/i! = pⁱ/(qⁱ·i!)
term_is : (p q : ℕ) (h : 0 < q) (i : ℕ) → term (ratio p q h) i ≈ᶠ ratio (p ^ i) (den q i) (den_pos q i h)
unfolding term
term_is p q h i =
    ≈-trans (over-cong (factorial i) (ratio-pow p q h i))
    (ratio-over (p ^ i) (q ^ i) (den q i) (factorial i) _ _ (factorial-pos i) (den-factorial q i))

-- a/d + t/(c·d) = (c·a + t)/(c·d)
ratio-add : (a d t c : ℕ) (h : 0 < d) (k : 0 < c * d) → ratio a d h +ᶠ ratio t (c * d) k ≈ᶠ ratio (c * a + t) (c * d) k
unfolding ratio ◌+ᶠ◌
ratio-add a d t c h k = record { cross = omega arith }

-- Sₙ(p/q) = num q p n / den q n
pub series-is : (p q : ℕ) (h : 0 < q) (n : ℕ) → S n (ratio p q h) ≈ᶠ ratio (num q p n) (den q n) (den_pos q n h)
unfolding S num acc den
series-is p q h zero = term_is p q h 0
series-is p q h (suc n) =
    ≈-trans (+-cong (series-is p q h n) (term_is p q h (suc n)))
    (ratio-add (num q p n) (den q n) (p ^ suc n) (q * suc n) _ (den_pos q (suc n) h))
