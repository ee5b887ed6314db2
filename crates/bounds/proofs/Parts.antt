-- Products in parts: a number n is n / k parts of k and n % k more, so that a product is cut part by part, for every width k of a part.
use mathlib.Core.Path.{◌≡◌, sym, ◌∙◌, ap}
use Prim.Native.Nat.{ℕ, ◌+◌, ◌*◌, ◌-◌, ◌/◌, ◌%◌, ◌≤◌, ◌<◌}
use native.Mathlib.Nat.{add-zero, mul_comm, mul-add, div-add-mod', mul-add-div_right}
use native.Mathlib.Nat.{div-div-eq-div-mul, div-lt_iff_lt-mul, mul-le-mul, lt_of_le_of_lt}
use native.Mathlib.Omega.{arith}

-- ⌊(a·b + r)/k⌋, with a in parts
pub cut_sum : (k a b r : ℕ) → 0 < k → a / k * b + (a % k * b + r) / k ≡ (a * b + r) / k
cut_sum k a b r pos =
    sym
    (ap (λ (n : ℕ). (n * b + r) / k) (sym (div-add-mod' a k)) ∙ ap (λ (n : ℕ). n / k) (omega arith)
    ∙ mul-add-div_right pos (a / k * b) (a % k * b + r))

-- ⌊a·b/k⌋
cut_product : (k a b : ℕ) → 0 < k → a / k * b + a % k * b / k ≡ a * b / k
cut_product k a b pos = rw (add-zero (a % k * b), add-zero (a * b)) at (cut_sum k a b 0 pos)

-- ⌊a·b/k⌋, with both in parts: the product of the high parts, and the lower ones
both-cut : (k a b : ℕ) → 0 < k → a / k * (b / k) * k + (a / k * (b % k) + a % k * (b / k) + a % k * (b % k) / k) ≡ a * b / k
both-cut k a b pos =
    let in_parts : a / k * (b / k * k + b % k) ≡ a / k * b = ap (λ (n : ℕ). a / k * n) (div-add-mod' b k) in
    rw (mul_comm (a % k) (b % k)) (omega (arith, cut_product k a b pos, rw (mul_comm b (a % k)) at (cut_product k b (a % k) pos)))

-- ⌊a·b/k²⌋, with both in parts
pub cut_twice : (k a b : ℕ) → 0 < k → a / k * (b / k) + (a / k * (b % k) + a % k * (b / k) + a % k * (b % k) / k) / k ≡ a * b / (k * k)
cut_twice k a b pos =
    sym (mul-add-div_right pos _ _) ∙ ap (λ (n : ℕ). n / k) (both-cut k a b pos) ∙ div-div-eq-div-mul (a * b) k k

-- ⌊a·b/k²⌋ for b of k² and more: a, and ⌊a·(b − k²)/k²⌋ with a in parts
pub cut-above : (k a b : ℕ) → 0 < k → k * k ≤ b → a + (a / k * (b - k * k) + a % k * (b - k * k) / k) / k ≡ a * b / (k * k)
cut-above k a b pos h =
    let f : ℕ = b - k * k in
    let whole : a * (k * k) + a * f ≡ a * b = sym (mul-add a (k * k) f) ∙ ap (λ (n : ℕ). a * n) (omega arith) in
    ap (λ (n : ℕ). a + n / k) (cut_product k a f pos) ∙ ap (λ (n : ℕ). a + n) (div-div-eq-div-mul (a * f) k k) ∙
    sym (mul-add-div_right (square-pos pos) a (a * f)) ∙ ap (λ (n : ℕ). n / (k * k)) whole
  where
    square-pos : {k : ℕ} → 0 < k → 0 < k * k
    square-pos {k} p = omega (arith, mul-le-mul p p)

-- how large a cut product is at most, from how large its factors are
pub cut_below : (k : ℕ) {a b A B C : ℕ} → 0 < k → a ≤ A → b ≤ B → A * B < C * k → a * b / k < C
cut_below k pos h g l = (div-lt_iff_lt-mul pos).1 (lt_of_le_of_lt (mul-le-mul h g) l)
