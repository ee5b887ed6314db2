-- The short exponential encloses E: for every n of 40 or more, short x ≤ 2³⁶·Eₙ(z) ≤ short x + short_error x, with z = x·2⁻⁵³ − 16.
-- And every number on the way fits 64 bits.
use mathlib.Core.Path.{◌≡◌, refl}
use Prim.Native.Nat.{ℕ, ◌+◌, ◌*◌, ◌-◌, ◌^◌, ◌/◌, ◌%◌, ◌≤◌, ◌<◌}
use native.Mathlib.Omega.{arith}
use native.Mathlib.Nat.{mul-le-mul, mul_comm, div-add-mod}
use lib.ListN.{get_or}
use Rattle.std.proofs.lemmas.Nat.{mod-pow-add, field_of}
use Rattle.bounds.specs.Series.{E, two_pos}
use Rattle.bounds.specs.Enclosure.{Within, WithinAll}
use Rattle.bounds.specs.Exponential.{coarse, fine, high, finest}
use Rattle.bounds.specs.Short.{short_exponent, short_fine, short, short_limit, short_error}
use Rattle.numbers.proofs.Order.{≈-sym}
use Rattle.bounds.proofs.Within.{within-≈, round-within, widen, div_mono}
use Rattle.bounds.proofs.Tail.{Near}
use Rattle.bounds.proofs.Exponential.{E-is}
use Rattle.bounds.proofs.Entries.{from, coarse-near, coarse-mono}
use Rattle.bounds.proofs.ExponentialBound.{fine-near}
use Rattle.bounds.proofs.Growth.{fine-last}
use Rattle.bounds.proofs.Composition.{Small, small-sum, small-scale, small-unscale, small-round, small-weaken}
use Rattle.bounds.proofs.Composition.{near-cut, composed, linear-small}

-- Sizes.

-- E below 3 and a sixteenth is below 2695835132·2⁻²⁷
high-size : (h : ℕ) → h < 305 → high h ≤ 2695835131
unfolding high coarse
high-size h l = div_mono (2 ^ 13) (omega arith) (coarse-mono {h = h} {k = 304} (omega arith) (omega arith))

-- E up to a sixteenth
finest-size : (j : ℕ) → j < 1024 → finest j ≤ 1142992221
unfolding finest
finest-size j l = div_mono (2 ^ 10) (omega arith) (fine-last (j * 6103515625) (omega arith))

-- the product with 1 + ρ
pub finest-product : (j p : ℕ) → j < 1024 → p < 2 ^ 18 → finest j * (2 ^ 32 + p) ≤ 1142992221 * (2 ^ 32 + 2 ^ 18)
finest-product j p l h = mul-le-mul {m₂ = 2 ^ 32 + 2 ^ 18} (finest-size j l) (omega arith)

-- E(j/16384 + ρ)
short_fine-size : (j p : ℕ) → j < 1024 → p < 2 ^ 18 → short_fine j p ≤ 2286123967
unfolding short_fine
short_fine-size j p l h = omega (arith, finest-product j p l h)

-- the product with E at a sixteenth
pub short-product : (h j p : ℕ) → h < 305 → j < 1024 → p < 2 ^ 18 → high h * short_fine j p ≤ 2695835131 * 2286123967
short-product h j p a b c = mul-le-mul (high-size h a) (short_fine-size j p b c)

-- E(z) < 32
pub short-size : (x : ℕ) → x < short_limit → short x < 2 ^ 41
unfolding short
short-size x l = omega (arith, short-product (x / 2 ^ 49) (x / 2 ^ 39 % 2 ^ 10) (x / 2 ^ 21 % 2 ^ 18) (omega arith) (omega arith) (omega arith))

-- The three factors.

-- an entry of the first table
high-near : (h : ℕ) → h < 305 → Near 16 (from 256 h) (2 ^ 27) (h - 256) (256 - h) (high h)
unfolding high
high-near h l = near-cut (2 ^ 13) (omega arith) (coarse-near h (omega arith))

-- fine at a multiple of 1/16384
fine-at-step : (j : ℕ) → j < 1024 → Small (2 ^ 53) 10 (2 ^ 40) (2 ^ 39 * j) (fine (j * 6103515625)) 8
fine-at-step j l =
    small-scale (2 ^ 39)
    (small-unscale 6103515625 {q = 2 ^ 14} {d = j} (omega arith) (rw (mul_comm 6103515625 j) (fine-near (j * 6103515625) (omega arith))))

-- an entry of the second table, still in 2⁻⁴⁰
finest-near : (j : ℕ) → j < 1024 → Small (2 ^ 53) 10 (2 ^ 40) (2 ^ 39 * j) (finest j * 2 ^ 10) 1031
unfolding finest
finest-near j l = small-weaken _ _ (fine-at-step j l) (omega arith) (omega arith)

-- 1 + ρ, with ρ cut to 2⁻³², in 2⁻⁴²
linear-near : (r : ℕ) → r < 2 ^ 39 → Small (2 ^ 53) 1 (2 ^ 42) r ((2 ^ 32 + r / 2 ^ 21) * 2 ^ 10) 9217
linear-near r l =
    linear-small (2 ^ 53) (2 ^ 42) r ((2 ^ 32 + r / 2 ^ 21) * 2 ^ 10) 9217 32767 (omega arith) (omega arith) (omega arith) (omega arith) (omega arith)

-- The result.

-- the cut product of an entry m and 1 + ρ, with k = m·(2³² + p)
cut : (m p k : ℕ) → m ≤ 1142992221 → p < 2 ^ 18 → k ≡ m * (2 ^ 32 + p)
    → (k * 2 ^ 20 / 2 ^ 41) + ((m * 2 ^ 10 * 9217 + (2 ^ 32 + p) * 2 ^ 10 * 1031 + 1031 * 9217) / 2 ^ 41 + 2) ≤ k / 2 ^ 31 * 2 ^ 10 + 7993
cut m p k l h e = omega arith

-- E(j/16384 + ρ), in 2⁻⁴¹
short_fine-near : (j r : ℕ) → j < 1024 → r < 2 ^ 39 → Small (2 ^ 53) 11 (2 ^ 41) (2 ^ 39 * j + r) (short_fine j (r / 2 ^ 21) * 2 ^ 10) 7993
unfolding short_fine
short_fine-near j r l h =
    let p : ℕ = r / 2 ^ 21 in
    let e : finest j * 2 ^ 10 * ((2 ^ 32 + p) * 2 ^ 10) ≡ finest j * (2 ^ 32 + p) * 2 ^ 20 = omega arith in
    small-weaken _ _
    (rw e at (small-round {w = 2 ^ 41} (2 ^ 41) (omega arith) (small-sum (omega arith) (finest-near j l) (linear-near r h))))
    (below (finest j * (2 ^ 32 + p)))
    (cut (finest j) p (finest j * (2 ^ 32 + p)) (finest-size j l) (omega arith) refl)
  where
    below : (k : ℕ) → k / 2 ^ 31 * 2 ^ 10 ≤ k * 2 ^ 20 / 2 ^ 41
    below k = omega arith

-- an entry t of the first table, and f in 2⁻³¹ for the rest
short-at : (n h d t f : ℕ) → d < 2 ^ 49 → 40 ≤ n → f ≤ 2286123967 → Near 16 (from 256 h) (2 ^ 27) (h - 256) (256 - h) t
    → Small (2 ^ 53) 11 (2 ^ 41) d (f * 2 ^ 10) 7993
    → Within (2 ^ 36) (t * (f * 2 ^ 10) / 2 ^ 32) (250 * (t / 2 ^ 27 + 1) + 547) (E n (short_exponent (2 ^ 49 * h + d)))
short-at n h d t f l n40 k e s =
    widen
    (round-within (2 ^ 32) (omega arith)
    (within-≈ (≈-sym (E-is n (short_exponent (2 ^ 49 * h + d))))
    (composed 16 256 (2 ^ 49) h d 11 (2 ^ 27) (2 ^ 41) (f * 2 ^ 10) 7993 t n (two_pos 53) l (omega arith) n40 e s)))
    (omega arith)

-- the two cuts as one
shifted : (t f : ℕ) → t * (f * 2 ^ 10) / 2 ^ 32 ≡ t * f / 2 ^ 22
shifted t f = once (t * f) (omega arith)
  where
    once : (k : ℕ) {m : ℕ} → m ≡ k * 2 ^ 10 → m / 2 ^ 32 ≡ k / 2 ^ 22
    once k e = omega arith

-- short x ≤ 2³⁶·Eₙ(z) ≤ short x + short_error x for every n ≥ 40
pub short-within : (x : ℕ) → x < short_limit → WithinAll (2 ^ 36) (short x) (short_error x) (λ n. E n (short_exponent x))
unfolding short short_error
short-within x l =
    let h : ℕ = x / 2 ^ 49 in
    let d : ℕ = x % 2 ^ 49 in
    let j : ℕ = x / 2 ^ 39 % 2 ^ 10 in
    let p : ℕ = x / 2 ^ 21 % 2 ^ 18 in
    let s : Small (2 ^ 53) 11 (2 ^ 41) d (short_fine j p * 2 ^ 10) 7993 =
    rw (mul_comm (2 ^ 39) j, ← mod-pow-add x 10 39, field_of x 18 21) at (short_fine-near j (x % 2 ^ 39) (omega arith) (omega arith)) in
    record {
      at = λ n n40.
          rw (shifted (high h) (short_fine j p), div-add-mod x (2 ^ 49)) at
          (short-at n h d (high h) (short_fine j p) (omega arith) n40
          (short_fine-size j p (omega arith) (omega arith)) (high-near h (omega arith)) s);
    }

-- the error grows with the exponent
short_error-mono : {x y : ℕ} → x ≤ y → y < short_limit → short_error x ≤ short_error y
unfolding short_error high
short_error-mono {x} {y} l h =
    let g : x / 2 ^ 49 ≤ y / 2 ^ 49 = div_mono (2 ^ 49) (omega arith) l in
    let k : get_or coarse (x / 2 ^ 49) 0 ≤ get_or coarse (y / 2 ^ 49) 0 = coarse-mono g (omega arith) in
    omega arith

-- the error at a given exponent is computed, and bounds that of every smaller one
short_error-most : (last most : ℕ) → last < short_limit → short_error last ≡ most → (x : ℕ) → x ≤ last → short_error x ≤ most
short_error-most last most h e x l = rw e at (short_error-mono l h)

-- z ≤ 0
pub short_error-0 : (x : ℕ) → x ≤ 16 * 2 ^ 53 → short_error x ≤ 1047
unfolding short_error high coarse
short_error-0 = short_error-most (16 * 2 ^ 53) 1047 (omega arith) refl

-- z < 3 and a sixteenth
pub short_error-3 : (x : ℕ) → x < short_limit → short_error x ≤ 5797
unfolding short_error high coarse
short_error-3 x h = short_error-most (305 * 2 ^ 49 - 1) 5797 (omega arith) refl x (omega arith)
