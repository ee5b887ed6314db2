-- The smaller of two values and the excess of one over the other, and their enclosures.
-- Assumes nothing.
use mathlib.Core.Bool.{Bool, true, false}
use Prim.Native.Nat.{ℕ, ◌+◌, ◌-◌, ◌≤◌, ◌<◌, min}
use native.Mathlib.Omega.{arith}
use native.Mathlib.Decide.{dec_le}
use native.Mathlib.Nat.{mul-le-mul_right}
use Rattle.numbers.specs.Fraction.{Fraction, ◌≤ᶠ◌, ◌≈ᶠ◌, ◌≤?◌, ◌+ᶠ◌, ◌-ᶠ◌, whole}
use Rattle.bounds.specs.Enclosure.{Within}
use Rattle.numbers.proofs.Order.{NonNegative→≤, test-cases, not-≤→<, <→≤, ≤-refl, ≤_trans, ≤-antisym, ≈→≥, +-mono}
use Rattle.numbers.proofs.Order.{+-zero, sub-mono, sub-NonNegative, ≤-sub, ratio-≤}
use Rattle.bounds.proofs.ShortLine.{Held}
use Rattle.bounds.proofs.Within.{weaken, within-≈, within-above, within-below, within-from, within-cross, whole-within, sub_within}

-- min(x, y)
unfoldable pub smaller : Fraction → Fraction → Fraction
smaller x y = elim (x ≤? y) [ true ↦ x | false ↦ y ]

-- max(0, x − y)
unfoldable pub excess : Fraction → Fraction → Fraction
excess x y = elim (x ≤? y) [ true ↦ whole 0 | false ↦ x -ᶠ y ]

-- min(x, y) ≤ x
pub smaller-left : (x y : Fraction) → smaller x y ≤ᶠ x
unfolding smaller
smaller-left x y =
    test-cases (λ (c : Bool). (elim c [ true ↦ x | false ↦ y ]) ≤ᶠ x) x y (λ _. ≤-refl x) (λ h. <→≤ (not-≤→< h))

-- min(x, y) ≤ y
pub smaller-right : (x y : Fraction) → smaller x y ≤ᶠ y
unfolding smaller
smaller-right x y = test-cases (λ (c : Bool). (elim c [ true ↦ x | false ↦ y ]) ≤ᶠ y) x y (λ h. h) (λ _. ≤-refl y)

-- what is at most both is at most the smaller
pub smaller-greatest : {x y z : Fraction} → z ≤ᶠ x → z ≤ᶠ y → z ≤ᶠ smaller x y
unfolding smaller
smaller-greatest {x} {y} {z} h k = test-cases (λ (c : Bool). z ≤ᶠ (elim c [ true ↦ x | false ↦ y ])) x y (λ _. h) (λ _. k)

-- 0 ≤ max(0, x − y)
excess-NonNegative : (x y : Fraction) → whole 0 ≤ᶠ excess x y
unfolding excess
excess-NonNegative x y =
    test-cases (λ (c : Bool). whole 0 ≤ᶠ (elim c [ true ↦ whole 0 | false ↦ x -ᶠ y ])) x y (λ _. ≤-refl (whole 0))
    (λ h. NonNegative→≤ (sub-NonNegative (<→≤ (not-≤→< h))))

-- x − y ≤ max(0, x − y)
excess-above : (x y : Fraction) → x -ᶠ y ≤ᶠ excess x y
unfolding excess
excess-above x y =
    test-cases (λ (c : Bool). x -ᶠ y ≤ᶠ (elim c [ true ↦ whole 0 | false ↦ x -ᶠ y ])) x y
    (λ h. ≤-sub y (whole 0) (≤_trans h (≈→≥ (+-zero y)))) (λ _. ≤-refl (x -ᶠ y))

-- what is at least 0 and x − y is at least the excess
excess-least : (x y : Fraction) {z : Fraction} → whole 0 ≤ᶠ z → x -ᶠ y ≤ᶠ z → excess x y ≤ᶠ z
unfolding excess
excess-least x y {z} h k =
    test-cases (λ (c : Bool). (elim c [ true ↦ whole 0 | false ↦ x -ᶠ y ]) ≤ᶠ z) x y (λ _. h) (λ _. k)

-- the excess grows with x
pub excess-mono : {x x' : Fraction} (y : Fraction) → x ≤ᶠ x' → excess x y ≤ᶠ excess x' y
excess-mono {x} {x'} y h =
    excess-least x y (excess-NonNegative x' y) (≤_trans (sub-mono h (≤-refl y)) (excess-above x' y))

-- min(x + k, y + k) = min(x, y) + k
smaller-plus : (x y k : Fraction) → smaller (x +ᶠ k) (y +ᶠ k) ≈ᶠ smaller x y +ᶠ k
unfolding smaller
smaller-plus x y k =
    ≤-antisym
    (test-cases (λ (c : Bool). smaller (x +ᶠ k) (y +ᶠ k) ≤ᶠ (elim c [ true ↦ x | false ↦ y ]) +ᶠ k) x y
    (λ _. smaller-left (x +ᶠ k) (y +ᶠ k)) (λ _. smaller-right (x +ᶠ k) (y +ᶠ k)))
    (smaller-greatest (+-mono (smaller-left x y) (≤-refl k)) (+-mono (smaller-right x y) (≤-refl k)))

-- min(f(x), f(y)) = f(min(x, y)) where f grows
pub smaller-map : (f : Fraction → Fraction) (x y : Fraction) → ((u v : Fraction) → u ≤ᶠ v → f u ≤ᶠ f v) → f (smaller x y) ≈ᶠ smaller (f x) (f y)
unfolding smaller
smaller-map f x y grows =
    ≤-antisym (smaller-greatest (grows (smaller x y) x (smaller-left x y)) (grows (smaller x y) y (smaller-right x y)))
    (test-cases (λ (c : Bool). smaller (f x) (f y) ≤ᶠ f (elim c [ true ↦ x | false ↦ y ])) x y
    (λ _. smaller-left (f x) (f y)) (λ _. smaller-right (f x) (f y)))

-- Enclosures.

-- min(x, y)
smaller-within : {s l w m v u : ℕ} {x y : Fraction} (p : 0 < s) → Within s l w x → Within s m v y → min (l + w) (m + v) ≤ min l m + u
    → Within s (min l m) u (smaller x y)
smaller-within {s} {l} {w} {m} {v} {u} {x} {y} p a b h =
    within-from p
    (smaller-greatest (≤_trans (ratio-≤ _ _ p p (mul-le-mul_right s (omega arith))) (within-above p a))
    (≤_trans (ratio-≤ _ _ p p (mul-le-mul_right s (omega arith))) (within-above p b)))
    (elim (dec_le (l + w) (m + v)) [
      | yes k ↦ ≤_trans (smaller-left x y) (≤_trans (within-below p a) (ratio-≤ _ _ p p (mul-le-mul_right s (omega arith))))
      | no k ↦ ≤_trans (smaller-right x y) (≤_trans (within-below p b) (ratio-≤ _ _ p p (mul-le-mul_right s (omega arith))))
    ])

-- the smaller of two held exponents
pub smaller-held : {x w t v : ℕ} (u : ℕ) {z τ : Fraction} → w ≤ u → v ≤ u → Held x w z → Held t v τ → Held (min x t) u (smaller z τ)
smaller-held u {z} {τ} hw hv hz hτ = record {
  raised = within-≈ (smaller-plus z τ (whole 16)) (smaller-within (omega arith) hz.raised hτ.raised (omega arith));
}

-- max(0, x − y)
pub excess-within : {s l w m v : ℕ} {x y : Fraction} → Within s l w x → Within s m v y → Within s (l - m - v) (w + v) (excess x y)
unfolding excess
excess-within {s} {l} {w} {m} {v} {x} {y} a b =
    test-cases (λ (c : Bool). Within s (l - m - v) (w + v) (elim c [ true ↦ whole 0 | false ↦ x -ᶠ y ])) x y
    (λ h.
    let g : l ≤ m + v = within-cross a b h in
    weaken (whole-within s 0) (omega arith) (omega arith))
    (λ h. sub_within (<→≤ (not-≤→< h)) a b)
