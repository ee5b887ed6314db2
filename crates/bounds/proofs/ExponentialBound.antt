-- The computed exponential encloses E: for every n of 40 or more, exponential x ≤ 2⁴⁰·Eₙ(z) ≤ exponential x + exponential_error x, with
-- z = x·10⁻¹⁴ − 16. And every number on the way fits 64 bits.
use mathlib.Core.Path.{◌≡◌, refl}
use Prim.Native.Nat.{ℕ, ◌+◌, ◌*◌, ◌-◌, ◌^◌, ◌/◌, ◌%◌, ◌≤◌, ◌<◌}
use native.Mathlib.Omega.{arith}
use native.Mathlib.Nat.{mul-le-mul, le_of_lt, le-div_iff_mul-le, div-add-mod, mod-lt}
use lib.Dec.{lit<, lit≤}
use lib.ListN.{get_or}
use Rattle.numbers.specs.Fraction.{ten-pos}
use Rattle.bounds.specs.Series.{E}
use Rattle.bounds.specs.Enclosure.{Within, WithinAll}
use Rattle.bounds.specs.Exponential.{exponent, coarse, middle, rest, quadratic, fine, exponential, exponent_limit, exponential_error}
use Rattle.numbers.proofs.Order.{≈-sym}
use Rattle.bounds.proofs.Within.{within-≈, round-within, widen, div_mono}
use Rattle.bounds.proofs.Tail.{Near}
use Rattle.bounds.proofs.Exponential.{E-is}
use Rattle.bounds.proofs.Entries.{from, coarse-near, middle-near, coarse-mono}
use Rattle.bounds.proofs.Parts.{cut_below}
use Rattle.bounds.proofs.Sizes.{coarse-below, middle-below, middle-least}
use Rattle.bounds.proofs.Composition.{Small, small-sum, small-scale, small-round, small-widen, near-small, composed, quadratic-small}

-- Sizes.

-- ρ < 2⁻¹²
rest-size : (r : ℕ) → r < 24414062500 → rest r < 2 ^ 28
unfolding rest
rest-size r h = omega arith

-- its square fits
pub rest-square : (g : ℕ) → g < 2 ^ 28 → g * g ≤ 2 ^ 56
rest-square g h = mul-le-mul {n₂ = 2 ^ 28} {m₂ = 2 ^ 28} (le_of_lt h) (le_of_lt h)

-- 1 + ρ + ρ²/2
pub quadratic-size : (r : ℕ) → r < 24414062500 → quadratic r < 11 * 10 ^ 11
unfolding quadratic
quadratic-size r h = let g = rest-size r h in omega (arith, rest-square (rest r) g)

-- it is 1 or more
pub quadratic-least : (r : ℕ) → 2 ^ 40 ≤ quadratic r
unfolding quadratic
quadratic-least r = omega arith

-- E(m/4096 + ρ) is 1 or more
pub fine-least : (d : ℕ) → d < 6250000000000 → 2 ^ 40 ≤ fine d
unfolding fine
fine-least d h =
    (le-div_iff_mul-le {k = 2 ^ 40} (omega arith)).1
    (mul-le-mul (middle-least (d / 24414062500) (omega arith)) (quadratic-least (d % 24414062500)))

-- and no more than this
pub fine-size : (d : ℕ) → d < 6250000000000 → fine d < 12 * 10 ^ 11
unfolding fine
fine-size d h =
    cut_below (2 ^ 40) (omega arith) (le_of_lt (middle-below (d / 24414062500) (omega arith)))
    (le_of_lt (quadratic-size (d % 24414062500) (omega arith))) (lit< tt)

-- E(z) < 64
pub exponential-size : (x : ℕ) → x < exponent_limit → exponential x < 2 ^ 46
unfolding exponential
exponential-size x h =
    cut_below (2 ^ 40) (omega arith) (le_of_lt (coarse-below (x / 6250000000000) (omega arith)))
    (le_of_lt (fine-size (x % 6250000000000) (omega arith))) (lit< tt)

-- E(z) < 8 for z ≤ 2⁴⁷·10⁻¹⁴
pub exponential-size-1_41 : (x : ℕ) → x ≤ 16 * 10 ^ 14 + 2 ^ 47 → exponential x < 2 ^ 43
unfolding exponential coarse
exponential-size-1_41 x h =
    cut_below (2 ^ 40) (omega arith) (coarse-mono {h = x / 6250000000000} {k = 278} (omega arith) (omega arith))
    (le_of_lt (fine-size (x % 6250000000000) (omega arith))) (lit< tt)

-- E(0) is 1
pub exponential-at-0 : exponential (16 * 10 ^ 14) ≡ 2 ^ 40
unfolding exponential fine quadratic rest coarse middle
exponential-at-0 = refl

-- E(2⁴⁷·10⁻¹⁴) is 4 or more
pub exponential-at-1_41 : 4 * 2 ^ 40 ≤ exponential (16 * 10 ^ 14 + 2 ^ 47)
unfolding exponential fine quadratic rest coarse middle
exponential-at-1_41 = lit≤ tt

-- The three factors.

-- ρ cut to 2⁻⁴⁰
rest-above : (r : ℕ) → rest r * 10 ^ 14 ≤ 2 ^ 40 * r
unfolding rest
rest-above r = omega arith

-- from above
rest_below : (r : ℕ) → 2 ^ 40 * r ≤ (rest r + 1) * 10 ^ 14
unfolding rest
rest_below r = omega arith

-- ρ²/2 cut to 2⁻⁴⁰
half-square-above : (g : ℕ) → g * g / 2 ^ 41 * (2 * 2 ^ 40) ≤ g * g
half-square-above g = omega arith

-- from above, with the rounding of ρ
half-square-below : (g : ℕ) → g < 2 ^ 28 → 4 * ((g + 1) * (g + 1)) ≤ (4 * (g * g / 2 ^ 41) + 5) * (2 * 2 ^ 40)
half-square-below g h = omega arith

-- at most 2¹⁵ units, so that the tail after it is at most 11/4
half-square-size : (g : ℕ) → g < 2 ^ 28 → 4 * (g * g / 2 ^ 41) + 5 ≤ 11 * 12287
half-square-size g h = omega (arith, rest-square g h)

-- quadratic r is within 5 of 2⁴⁰·E(ρ)
quadratic-near : (r : ℕ) → r < 24414062500 → Small (10 ^ 14) 2 (2 ^ 40) r (quadratic r) 5
unfolding quadratic
quadratic-near r h =
    let g = rest-size r h in
    quadratic-small (10 ^ 14) (2 ^ 40) r (rest r) (rest r * rest r / 2 ^ 41) 12287 (omega arith) (omega arith) (omega arith)
    (rest-above r) (rest_below r) (half-square-above (rest r)) (half-square-below (rest r) g) (omega arith) (half-square-size (rest r) g)

-- fine d is within 8 of 2⁴⁰·E(m/4096 + ρ)
fine-at : (m r s : ℕ) → r < 24414062500 → s < 118 * 10 ^ 10 → Near 4096 8 (2 ^ 40) (m - 0) (0 - m) s
    → Small (10 ^ 14) 10 (2 ^ 40) (24414062500 * m + r) (s * quadratic r / 2 ^ 40) 8
fine-at m r s h l e =
    small-widen
    (small-round (2 ^ 40) (omega arith) (small-sum (omega arith) (small-scale 24414062500 (near-small (omega arith) e)) (quadratic-near r h)))
    (omega (arith, quadratic-size r h))

-- at d = m/4096 + ρ
pub fine-near : (d : ℕ) → d < 6250000000000 → Small (10 ^ 14) 10 (2 ^ 40) d (fine d) 8
unfolding fine
fine-near d h =
    let m : ℕ = d / 24414062500 in
    rw (div-add-mod d 24414062500) at
    (fine-at m (d % 24414062500) (get_or middle m 0) (omega arith) (middle-below m (omega arith))
    (middle-near m (omega arith)))

-- an entry t of coarse, and lo = fine d
exponential-at : (n h d t lo : ℕ) → d < 6250000000000 → 40 ≤ n → lo < 2 ^ 41 → Near 16 (from 256 h) (2 ^ 40) (h - 256) (256 - h) t
    → Small (10 ^ 14) 10 (2 ^ 40) d lo 8
    → Within (2 ^ 40) (t * lo / 2 ^ 40) (8 * (t / 2 ^ 40 + 1) + 3) (E n (exponent (6250000000000 * h + d)))
exponential-at n h d t lo l n40 k e s =
    widen
    (round-within (2 ^ 40) (omega arith)
    (within-≈ (≈-sym (E-is n (exponent (6250000000000 * h + d))))
    (composed 16 256 6250000000000 h d 10 (2 ^ 40) (2 ^ 40) lo 8 t n (ten-pos 14) l (omega arith) n40 e s)))
    (omega arith)

-- The result.

-- exponential x ≤ 2⁴⁰·Eₙ(z) ≤ exponential x + exponential_error x for every n ≥ 40
pub exponential-within : (x : ℕ) → x < exponent_limit → WithinAll (2 ^ 40) (exponential x) (exponential_error x) (λ n. E n (exponent x))
unfolding exponential exponential_error
exponential-within x l =
    let h : ℕ = x / 6250000000000 in
    let d : ℕ = x % 6250000000000 in
    let k : d < 6250000000000 = mod-lt x (omega arith) in
    record {
      at = λ n n40.
          rw (div-add-mod x 6250000000000) at
          (exponential-at n h d (get_or coarse h 0) (fine d) k n40 (omega (arith, fine-size d k))
          (coarse-near h (omega arith)) (fine-near d k));
    }

-- the error grows with the exponent
exponential_error-mono : {x y : ℕ} → x ≤ y → y < exponent_limit → exponential_error x ≤ exponential_error y
unfolding exponential_error
exponential_error-mono {x} {y} l h =
    let g : x / 6250000000000 ≤ y / 6250000000000 = div_mono 6250000000000 (omega arith) l in
    let k : get_or coarse (x / 6250000000000) 0 ≤ get_or coarse (y / 6250000000000) 0 = coarse-mono g (omega arith) in
    omega arith

-- the error at a given exponent is computed, and bounds that of every smaller one
exponential_error-most : (last most : ℕ) → last < exponent_limit → exponential_error last ≡ most → (x : ℕ) → x ≤ last
    → exponential_error x ≤ most
exponential_error-most last most h e x l = rw e at (exponential_error-mono l h)

-- z ≤ 2⁴⁷·10⁻¹⁴, just above 1.4
pub exponential_error-1_41 : (x : ℕ) → x ≤ 16 * 10 ^ 14 + 2 ^ 47 → exponential_error x ≤ 35
unfolding exponential_error coarse
exponential_error-1_41 = exponential_error-most (16 * 10 ^ 14 + 2 ^ 47) 35 (omega arith) refl

-- z ≤ 2.3
pub exponential_error-2_3 : (x : ℕ) → x ≤ 183 * 10 ^ 13 → exponential_error x ≤ 83
unfolding exponential_error coarse
exponential_error-2_3 = exponential_error-most (183 * 10 ^ 13) 83 (omega arith) refl

-- z ≤ 3.6
pub exponential_error-3_6 : (x : ℕ) → x ≤ 196 * 10 ^ 13 → exponential_error x ≤ 291
unfolding exponential_error coarse
exponential_error-3_6 = exponential_error-most (196 * 10 ^ 13) 291 (omega arith) refl

-- z < 4.1
pub exponential_error-4_1 : (x : ℕ) → x < exponent_limit → exponential_error x ≤ 475
unfolding exponential_error coarse
exponential_error-4_1 x h = exponential_error-most (201 * 10 ^ 13 - 1) 475 (omega arith) refl x (omega arith)
