-- E at the ends of the ranges that an accepted sheet brings, for every n from 40 upward: each by one computed comparison at 40.
-- Assumes nothing.
use Prim.Native.Nat.{ℕ, ◌≤◌, ◌<◌}
use native.Mathlib.Omega.{arith}
use Rattle.numbers.specs.Fraction.{Fraction, ◌≤ᶠ◌, negᶠ, whole, ◌/10^◌, one-pos, ten-pos}
use Rattle.numbers.proofs.Order.{≤_trans, ≈→≤, ≈→≥, decimal-is, whole_is, ratio}
use Rattle.bounds.specs.Series.{E}
use Rattle.bounds.proofs.Tail.{below_test}
use Rattle.bounds.proofs.Exponential.{E-mono, E-below, ratio-≤-E}
use Rattle.bounds.proofs.Sums.{E-neg-most}

-- up to 0.44, of 0.004·vp: at most 1.56
pub E-to-0_44 : {z : Fraction} (n : ℕ) → 40 ≤ n → z ≤ᶠ 44 /10^ 2 → E n z ≤ᶠ 156 /10^ 2
unfolding below_test
E-to-0_44 n n40 = E-below 40 44 2 156 2 (omega arith) tt n n40

-- up to 2.255, of 0.0205·vp: at most 9.54
pub E-to-2_255 : {z : Fraction} (n : ℕ) → 40 ≤ n → z ≤ᶠ 2255 /10^ 3 → E n z ≤ᶠ 954 /10^ 2
unfolding below_test
E-to-2_255 n n40 = E-below 40 2255 3 954 2 (omega arith) tt n n40

-- up to 2.8201, of a mileage of 17 km: at most 16.9
pub E-to-2_8201 : {z : Fraction} (n : ℕ) → 40 ≤ n → z ≤ᶠ 28201 /10^ 4 → E n z ≤ᶠ 169 /10^ 1
unfolding below_test
E-to-2_8201 n n40 = E-below 40 28201 4 169 1 (omega arith) tt n n40

-- up to 3, of a canister: at most 20.1
pub E-to-3 : {z : Fraction} (n : ℕ) → 40 ≤ n → z ≤ᶠ 3 /10^ 0 → E n z ≤ᶠ 201 /10^ 1
unfolding below_test
E-to-3 n n40 = E-below 40 3 0 201 1 (omega arith) tt n n40

-- up to 3.58, of 0.0716·T up to 50 °C: at most 36
pub E-to-3_58 : {z : Fraction} (n : ℕ) → 40 ≤ n → z ≤ᶠ 35800 /10^ 4 → E n z ≤ᶠ 36 /10^ 0
unfolding below_test
E-to-3_58 n n40 = E-below 40 35800 4 36 0 (omega arith) tt n n40

-- up to 4.0096, of 0.0716·T up to 56 °C: at most 56
pub E-to-4_0096 : {z : Fraction} (n : ℕ) → 40 ≤ n → z ≤ᶠ 40096 /10^ 4 → E n z ≤ᶠ 56 /10^ 0
unfolding below_test
E-to-4_0096 n n40 = E-below 40 40096 4 56 0 (omega arith) tt n n40

-- 16 ≤ E(2.78), of a mileage of 16 km
pub E-at-2_78 : (n : ℕ) → 40 ≤ n → whole 16 ≤ᶠ E n (278 /10^ 2)
unfolding below_test
E-at-2_78 n n40 =
    ≤_trans (≈→≤ (whole_is 16 one-pos))
    (≤_trans (ratio-≤-E 40 278 100 16 1 (ten-pos 2) one-pos tt n n40) (E-mono n (≈→≥ (decimal-is 278 2))))

-- 1/8 in decimals
eight-pos : 0 < 8
eight-pos = omega arith

eighth : ratio 1 8 eight-pos ≤ᶠ 125 /10^ 3
unfolding ratio ◌/10^◌
eighth = omega arith

-- E(−7.75) ≤ 1/8, of what an empty canister loses
pub E-at-minus-7_75 : (n : ℕ) → 40 ≤ n → E n (negᶠ (775 /10^ 2)) ≤ᶠ 125 /10^ 3
unfolding below_test
E-at-minus-7_75 n n40 =
    ≤_trans
    (E-neg-most n 8 1 (775 /10^ 2) eight-pos one-pos
    (≤_trans (ratio-≤-E 40 775 100 8 1 (ten-pos 2) one-pos tt n n40) (E-mono n (≈→≥ (decimal-is 775 2)))))
    eighth
