-- The examples that document 01 marks P, "shown together as a table with one proof".
-- Assumes nothing.
use mathlib.Core.Path.{◌≡◌, refl, ap, ◌∙◌}
use Prim.Native.Nat.{ℕ, ◌*◌, ◌^◌, ◌/◌}
use native.Mathlib.Omega.{arith}
use Rattle.numbers.specs.Fraction.{Fraction, ◌≈ᶠ◌, ◌≤ᶠ◌, ◌+ᶠ◌, ◌-ᶠ◌, ◌*ᶠ◌, whole}
use Rattle.bounds.specs.Series.{root}
use Rattle.numbers.proofs.Order.{≈-refl, ≈-sym, ≈-trans, ≈→≤, ≈→≥, ≤-refl, ≤_trans, ≤-antisym, +-cong, +_assoc, +_comm}
use Rattle.numbers.proofs.Order.{+-zero, *-cong, sub-cong, sub-mono, sub_self, add-sub, test-cases}
use Rattle.bounds.proofs.Laws.{root-square-cut, E-cong, E-zero}
use Rattle.exact.specs.Canister.{a, b, curve, breakthrough}
use Rattle.exact.specs.Marked.{Marked}
use Rattle.exact.proofs.Loss.{B-up-to, B-above}
use Rattle.exact.proofs.Open.{definitions}

-- the root of a whole square k = m², cut after n places
square-root : (n k m : ℕ) → k ≡ m * m → root (4 ^ n * k / 1) ≡ m * 2 ^ n
square-root n k m e = ap root (rw e (omega arith)) ∙ root-square-cut n m

-- m + v ≤ m with v not negative: nothing came
nothing-came : {m v : Fraction} → whole 0 ≤ᶠ v → m +ᶠ v ≤ᶠ m → v ≈ᶠ whole 0
nothing-came {m} {v} h k =
    ≤-antisym (≤_trans (≈→≥ (add-sub v m)) (≤_trans (sub-mono (≤_trans (≈→≤ (+_comm v m)) k) (≤-refl m)) (≈→≤ (sub_self m)))) h

-- l + (m + v) − m − l = v: above m_sat, what comes goes
overflow : (l m v : Fraction) → l +ᶠ (m +ᶠ v) -ᶠ m -ᶠ l ≈ᶠ v
overflow l m v =
    ≈-trans (sub-cong
    (≈-trans (sub-cong (≈-sym (+_assoc l m v)) (≈-refl m))
    (≈-trans (sub-cong (≈-trans (+-cong (+_comm l m) (≈-refl v)) (≈-trans (+_assoc m l v) (+_comm m (l +ᶠ v))))
    (≈-refl m)) (add-sub (l +ᶠ v) m))) (≈-refl l))
    (≈-trans (sub-cong (+_comm l v) (≈-refl l)) (add-sub v l))

-- "breakthrough from m1 = m_sat is v"
full : (n : ℕ) (vp s T m v : Fraction) → whole 0 ≤ᶠ v → breakthrough n vp s m T m v ≈ᶠ v
unfolding breakthrough curve
full n vp s T m v h =
    test-cases (λ t. breakthrough n vp s m T m v ≈ᶠ v) (m +ᶠ v) m
    (λ k.
    let z : v ≈ᶠ whole 0 = nothing-came h k in
    rw (B-up-to n vp s m T (m +ᶠ v) k, B-up-to n vp s m T m (≤-refl m))
    (≈-trans (sub-cong (E-cong n (+-cong (≈-refl (a vp T)) (*-cong (≈-refl (b vp T *ᶠ s)) (≈-trans (+-cong (≈-refl m) z) (+-zero m))))) (≈-refl _))
    (≈-trans (sub_self _) (≈-sym z))))
    (λ k. rw (B-above n vp s m T (m +ᶠ v) k, B-up-to n vp s m T m (≤-refl m)) (overflow (curve n vp s m T m) m v))

pub marked : Marked
unfolding definitions
marked = record {
  S2-at-1 = record { cross = refl };
  S3-at-1 = record { cross = refl };
  E-at-minus-1 = record { cross = refl };
  E-at-0 = λ n. E-zero n;
  power-at-4 = λ n. record { cross = rw (square-root n 1024 32 refl) (omega arith) };
  power-at-9 = λ n. record { cross = rw (square-root n 59049 243 refl) (omega arith) };
  power-at-minus-5 = λ n. record { cross = refl };
  bracket-at-4 = λ n. record { cross = rw (square-root n 1024 32 refl) (omega arith) };
  a-at-60-and-20 = record { cross = refl };
  b-at-60-and-20 = record { cross = refl };
  w-at-28 = refl;
  start-of-12-hours-to-1 = refl;
  start-of-half-an-hour-to-24 = refl;
  saturated = full;
}
