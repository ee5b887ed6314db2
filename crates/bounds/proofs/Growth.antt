-- The computed exponential grows with its exponent: each of its two tables leaves room for the largest factor of the entry before.
-- Assumes nothing.
use mathlib.Core.Path.{◌≡◌}
use mathlib.Core.Bool.{Bool, true}
use mathlib.Core.List.{List, [], ◌∷◌}
use Prim.Native.Nat.{ℕ, zero, suc, ◌+◌, ◌*◌, ◌^◌, ◌/◌, ◌%◌, ◌≤◌, ◌<◌}
use native.Mathlib.Omega.{arith}
use native.Mathlib.Decide.{dec_le}
use native.Mathlib.Nat.{mul-le-mul_left, mul-le-mul, le-div_iff_mul-le, mod-lt, div-add-mod', not-suc-le-zero, le_of_suc-le-suc, le_trans}
use lib.Dec.{T, leb, leb→le, lit≤}
use lib.ListN.{length, get_or}
use Rattle.bounds.specs.Exponential.{coarse, middle, rest, quadratic, fine, exponential, exponent_limit}
use Rattle.bounds.proofs.Table.{both, both_left, both_right}
use Rattle.bounds.proofs.Within.{div_mono}

-- no entry is below q/k times the one before it, and the first not below q/k times a
abbrev climbing : (q k : ℕ) → ℕ → List ℕ → Bool
climbing q k a [] = true
climbing q k a (x ∷ xs) = both (leb (a * q / k) x) (climbing q k x xs)

-- a ≤ a·q/k where k ≤ q
enlarged : {q : ℕ} (k a : ℕ) → 0 < k → k ≤ q → a ≤ a * q / k
enlarged k a pos h = (le-div_iff_mul-le pos).1 (mul-le-mul_left a h)

module _ (q k : ℕ) (pos : 0 < k) (grows : k ≤ q) where
  -- each entry is at least q/k times a
  least : (a : ℕ) (xs : List ℕ) → T (climbing q k a xs) → (j : ℕ) → j < length xs → a * q / k ≤ get_or xs j 0
  least a [] t j h = absurd (not-suc-le-zero h)
  least a (x ∷ xs) t zero h = leb→le (a * q / k) x (both_left (leb (a * q / k) x) (climbing q k x xs) t)
  least a (x ∷ xs) t (suc j) h =
      le_trans (leb→le (a * q / k) x (both_left (leb (a * q / k) x) (climbing q k x xs) t))
      (le_trans (enlarged k x pos grows) (least x xs (both_right (leb (a * q / k) x) (climbing q k x xs) t) j (le_of_suc-le-suc h)))

  -- and q/k times each one before it
  climbing-at : (a : ℕ) (xs : List ℕ) → T (climbing q k a xs) → (i j : ℕ) → i < j → j < length xs → get_or xs i 0 * q / k ≤ get_or xs j 0
  climbing-at a [] t i j l h = absurd (not-suc-le-zero h)
  climbing-at a (x ∷ xs) t i zero l h = absurd (not-suc-le-zero l)
  climbing-at a (x ∷ xs) t zero (suc j) l h =
      least x xs (both_right (leb (a * q / k) x) (climbing q k x xs) t) j (le_of_suc-le-suc h)
  climbing-at a (x ∷ xs) t (suc i) (suc j) l h =
      climbing-at x xs (both_right (leb (a * q / k) x) (climbing q k x xs) t) i j (le_of_suc-le-suc l) (le_of_suc-le-suc h)

-- A value x in parts of a size: the entry of a table for the whole parts, times what g gives for the rest.
module _ (k size n : ℕ) (xs : List ℕ) (g : ℕ → ℕ) (pos : 0 < k) (some : 0 < size) (from : k ≤ g 0) (last : ℕ)
    (g-mono : (r t : ℕ) → r ≤ t → t < size → g r ≤ g t) (g-last : (r : ℕ) → r < size → g r ≤ last)
    (entries : (i j : ℕ) → i < j → j < n → get_or xs i 0 * last / k ≤ get_or xs j 0)
  where
    -- where g grows and the entries leave room for its largest value, the product grows
    parts-mono : {x y : ℕ} → x ≤ y → y / size < n → get_or xs (x / size) 0 * g (x % size) / k ≤ get_or xs (y / size) 0 * g (y % size) / k
    parts-mono {x} {y} l h =
        let rest-x : x % size < size = mod-lt x some in
        let rest-y : y % size < size = mod-lt y some in
        let parts : x / size ≤ y / size = div_mono size some l in
        elim (dec_le (y / size) (x / size)) [
          | yes e ↦
              let same : x / size ≡ y / size = omega arith in
              let r : x % size ≤ y % size = rest-mono same in
              rw same (div_mono k pos (mul-le-mul_left (get_or xs (y / size) 0) (g-mono (x % size) (y % size) r rest-y)))
          | no e ↦
              le_trans (div_mono k pos (mul-le-mul_left (get_or xs (x / size) 0) (g-last (x % size) rest-x)))
              (le_trans (entries (x / size) (y / size) (omega arith) h)
              (enlarged k (get_or xs (y / size) 0) pos (le_trans from (g-mono 0 (y % size) (omega arith) rest-y))))
        ]
      where
        rest-mono : x / size ≡ y / size → x % size ≤ y % size
        rest-mono e = let f : x / size * size + x % size ≡ x = div-add-mod' x size in omega (arith, rw e at f, div-add-mod' y size)

-- ρ grows,
rest-mono : {r t : ℕ} → r ≤ t → rest r ≤ rest t
unfolding rest
rest-mono h = omega arith

-- and 1 + ρ + ρ²/2
quadratic-mono : {r t : ℕ} → r ≤ t → quadratic r ≤ quadratic t
unfolding quadratic
quadratic-mono {r} {t} h =
    let l : rest r ≤ rest t = rest-mono h in
    omega (arith, l, div_mono (2 ^ 41) (omega arith) (mul-le-mul l l))

-- its largest value, at the end of a part,
quadratic-end : quadratic 24414062499 ≤ 1099780095998
unfolding quadratic rest
quadratic-end = lit≤ tt

quadratic-last : (r : ℕ) → r < 24414062500 → quadratic r ≤ 1099780095998
quadratic-last r h = le_trans (quadratic-mono {t = 24414062499} (omega arith)) quadratic-end

-- and its least
quadratic-0 : 2 ^ 40 ≤ quadratic 0
unfolding quadratic rest
quadratic-0 = lit≤ tt

-- the entries of middle leave room for it
middle-climbs : (i j : ℕ) → i < j → j < 256 → get_or middle i 0 * 1099780095998 / 2 ^ 40 ≤ get_or middle j 0
unfolding middle
middle-climbs = climbing-at 1099780095998 (2 ^ 40) (omega arith) (lit≤ tt) 0 middle tt

-- E(m/4096 + ρ) grows
fine-mono : {d e : ℕ} → d ≤ e → e < 6250000000000 → fine d ≤ fine e
unfolding fine
fine-mono l h =
    parts-mono (2 ^ 40) 24414062500 256 middle quadratic (omega arith) (omega arith) quadratic-0 1099780095998
    (λ r t l _. quadratic-mono l) quadratic-last
    middle-climbs l (omega arith)

-- its largest value,
fine_end : fine 6249999999999 ≤ 1170424035278
unfolding fine quadratic rest middle
fine_end = lit≤ tt

pub fine-last : (d : ℕ) → d < 6250000000000 → fine d ≤ 1170424035278
fine-last d h = le_trans (fine-mono {e = 6249999999999} (omega arith) (omega arith)) fine_end

-- and its least
fine-0 : 2 ^ 40 ≤ fine 0
unfolding fine quadratic rest middle
fine-0 = lit≤ tt

-- the entries of coarse leave room for it
coarse-climbs : (i j : ℕ) → i < j → j < 322 → get_or coarse i 0 * 1170424035278 / 2 ^ 40 ≤ get_or coarse j 0
unfolding coarse
coarse-climbs = climbing-at 1170424035278 (2 ^ 40) (omega arith) (lit≤ tt) 0 coarse tt

-- E(z) grows
pub exponential-mono : {x y : ℕ} → x ≤ y → y < exponent_limit → exponential x ≤ exponential y
unfolding exponential
exponential-mono l h =
    parts-mono (2 ^ 40) 6250000000000 322 coarse fine (omega arith) (omega arith) fine-0 1170424035278
    (λ r t l h. fine-mono l h) fine-last coarse-climbs l (omega arith)
