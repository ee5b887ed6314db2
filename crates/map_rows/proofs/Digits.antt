-- A product over a divisor, taken digit by digit of its first factor, for every base B of the digits.
use mathlib.Core.Path.{◌≡◌, sym, ◌∙◌, ap}
use Prim.Native.Nat.{ℕ, ◌+◌, ◌*◌, ◌-◌, ◌/◌, ◌%◌, ◌≤◌, ◌<◌}
use native.Mathlib.Nat.{div-add-mod', mul-add-div_right, div-lt_iff_lt-mul, mod-lt}
use native.Mathlib.Omega.{arith}
use Rattle.map_shares.proofs.Ranges.{cut-up-below}

module _ (p n d B c : ℕ) (pos : 0 < d) where
  -- (p·B + c)·n, from the quotient and the remainder of p·n
  carry : p * n / d * B * d + (p * n % d * B + c * n) ≡ (p * B + c) * n
  carry = omega (arith, ap (λ (t : ℕ). t * B) (div-add-mod' (p * n) d))

  carry-whole : p * n / d * B + (p * n % d * B + c * n) / d ≡ (p * B + c) * n / d
  carry-whole = sym (mul-add-div_right pos (p * n / d * B) (p * n % d * B + c * n)) ∙ ap (λ (t : ℕ). t / d) carry

  carry-rest : (p * n % d * B + c * n) % d ≡ (p * B + c) * n % d
  carry-rest =
      let r = p * n % d * B + c * n in
      omega (arith, div-add-mod' r d, div-add-mod' ((p * B + c) * n) d, carry, ap (λ (t : ℕ). t * d) carry-whole)

-- a quotient cut up is the quotient cut down, and one more where a remainder is left
cut-up-some : (x d : ℕ) → 0 < d → 0 < x % d → x / d + 1 ≡ (x + (d - 1)) / d
cut-up-some x d pos h =
    let l = mod-lt x pos in
    let e : x + (d - 1) ≡ (x / d + 1) * d + (x % d - 1) = omega (arith, div-add-mod' x d) in
    sym (ap (λ (t : ℕ). t / d) e ∙ mul-add-div_right pos (x / d + 1) (x % d - 1) ∙
    ap (λ (t : ℕ). x / d + 1 + t) (small (x % d - 1) (omega arith)) ∙ omega arith)
  where
    small : (y : ℕ) → y < d → y / d ≡ 0
    small y h = let q : y / d < 1 = (div-lt_iff_lt-mul pos).1 (omega arith) in omega arith

cut-up-none : (x d : ℕ) → 0 < d → x % d ≤ 0 → x / d ≡ (x + (d - 1)) / d
cut-up-none x d pos h =
    let e : x + (d - 1) ≡ x / d * d + (d - 1) = omega (arith, div-add-mod' x d) in
    sym (ap (λ (t : ℕ). t / d) e ∙ mul-add-div_right pos (x / d) (d - 1) ∙ ap (λ (t : ℕ). x / d + t) (small (d - 1) (omega arith)) ∙ omega arith)
  where
    small : (y : ℕ) → y < d → y / d ≡ 0
    small y h = let q : y / d < 1 = (div-lt_iff_lt-mul pos).1 (omega arith) in omega arith

-- one digit more of a mass m: its quotient and remainder from those of m/B
module _ (m n d B : ℕ) (pos : 0 < d) where
  pub digit-whole : m / B * n / d * B + (m / B * n % d * B + m % B * n) / d ≡ m * n / d
  digit-whole = carry-whole (m / B) n d B (m % B) pos ∙ ap (λ (t : ℕ). t * n / d) (div-add-mod' m B)

  pub digit-rest : (m / B * n % d * B + m % B * n) % d ≡ m * n % d
  digit-rest = carry-rest (m / B) n d B (m % B) pos ∙ ap (λ (t : ℕ). t * n % d) (div-add-mod' m B)

-- a share cut up, from the quotient w and the remainder r
module _ (m part all w r : ℕ) (pos : 0 < all) (h : part ≤ all) (e : w ≡ m * part / all) (f : r ≡ m * part % all) where
  pub share-up-some : 0 < r → (w + 1 ≡ (m * part + (all - 1)) / all) × (w + 1 ≤ m)
  share-up-some g =
      let q : w + 1 ≡ (m * part + (all - 1)) / all = rw e (cut-up-some (m * part) all pos (rw f at g)) in
      (q, rw q (cut-up-below m part all pos h))

  pub share-up-none : r ≤ 0 → (w ≡ (m * part + (all - 1)) / all) × (w ≤ m)
  share-up-none g =
      let q : w ≡ (m * part + (all - 1)) / all = e ∙ cut-up-none (m * part) all pos (rw f at g) in
      (q, rw q (cut-up-below m part all pos h))
