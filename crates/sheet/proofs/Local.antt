-- What is read of a sheet depends on the bytes where it stands, and on nothing else.
-- Assumes nothing.
use mathlib.Core.List.{List}
use mathlib.Core.Path.{◌≡◌, refl}
use Prim.Native.Nat.{ℕ, suc, zero, ◌+◌, ◌*◌, ◌≤◌, ◌<◌}
use native.Mathlib.Omega.{arith}
use Rattle.sheet.specs.Integers.{u8_at, u16_at, u32_at}
use Rattle.sheet.specs.Versions.{seasons_start}
use Rattle.sheet.specs.Bytes.{seasons_of, counts_at, row_place, season_from, equipment_at, canister_of, tank_of, row_from}

-- n bytes from p on in s are those from q on in t
pub record Same (s t : List ℕ) (p q n : ℕ) : Type 0 where
  pub byte : (k : ℕ) → k < n → u8_at s (p + k) ≡ u8_at t (q + k)

module _ {s t : List ℕ} {p q n : ℕ} (h : Same s t p q n) where
  -- the byte that stands k places on, at x and at y,
  pub byte_at : (k x y : ℕ) → x ≡ p + k → y ≡ q + k → k < n → u8_at s x ≡ u8_at t y
  byte_at k x y e f l = rw (e, f) (h.byte k l)

  -- and the numbers of two and of four bytes that start there
  pub word_at : (k x y : ℕ) → x ≡ p + k → y ≡ q + k → k + 1 < n → u16_at s x ≡ u16_at t y
  word_at k x y e f l = cc (byte_at k x y e f (omega arith), byte_at (k + 1) (x + 1) (y + 1) (omega arith) (omega arith) l)

  pub long-at : (k x y : ℕ) → x ≡ p + k → y ≡ q + k → k + 3 < n → u32_at s x ≡ u32_at t y
  long-at k x y e f l = cc (word_at k x y e f (omega arith), word_at (k + 2) (x + 2) (y + 2) (omega arith) (omega arith) (omega arith))

  -- m of the bytes, from k places on
  pub part : (k m x y : ℕ) → x ≡ p + k → y ≡ q + k → k + m ≤ n → Same s t x y m
  part k m x y e f l = record { byte = λ j b. byte_at (k + j) (x + j) (y + j) (omega arith) (omega arith) (omega arith) }

  -- a season's eight bytes
  pub season-same : 8 ≤ n → season_from s p ≡ season_from t q
  unfolding season_from
  season-same l =
      rw (
        word_at 0 p q (omega arith) (omega arith) (omega arith),
        word_at 2 (p + 2) (q + 2) refl refl (omega arith),
        word_at 4 (p + 4) (q + 4) refl refl (omega arith),
        word_at 6 (p + 6) (q + 6) refl refl (omega arith),
      )

  -- class and technology
  pub equipment-same : 2 ≤ n → equipment_at s p ≡ equipment_at t q
  unfolding equipment_at
  equipment-same l =
      cc (byte_at 0 p q (omega arith) (omega arith) (omega arith), byte_at 1 (p + 1) (q + 1) refl refl (omega arith))

-- a row's bytes but for those of the canister and of the tank, which count alike
pub row_counts : {s t : List ℕ} {p q : ℕ} → Same s t p q 2 → Same s t (p + 3) (q + 3) 3 → Same s t (p + 8) (q + 8) 16
    → canister_of (u8_at s (p + 2)) (equipment_at s p) ≡ canister_of (u8_at t (q + 2)) (equipment_at t q)
    → tank_of (u16_at s (p + 6)) (equipment_at s p) ≡ tank_of (u16_at t (q + 6)) (equipment_at t q) → row_from s p ≡ row_from t q
unfolding row_from
row_counts {p} {q} class shares rest canister tank =
    rw (
      canister,
      tank,
      byte_at class 0 p q (omega arith) (omega arith) (omega arith),
      byte_at shares 0 (p + 3) (q + 3) (omega arith) (omega arith) (omega arith),
      byte_at shares 1 (p + 4) (q + 4) (omega arith) (omega arith) (omega arith),
      byte_at shares 2 (p + 5) (q + 5) (omega arith) (omega arith) (omega arith),
      long-at rest 0 (p + 8) (q + 8) (omega arith) (omega arith) (omega arith),
      word_at rest 4 (p + 12) (q + 12) (omega arith) (omega arith) (omega arith),
      word_at rest 6 (p + 14) (q + 14) (omega arith) (omega arith) (omega arith),
      word_at rest 8 (p + 16) (q + 16) (omega arith) (omega arith) (omega arith),
      word_at rest 10 (p + 18) (q + 18) (omega arith) (omega arith) (omega arith),
      long-at rest 12 (p + 20) (q + 20) (omega arith) (omega arith) (omega arith),
    )

-- a row's 24 bytes
pub row_same : {s t : List ℕ} {p q : ℕ} → Same s t p q 24 → row_from s p ≡ row_from t q
row_same {p} {q} h =
    let equipment = equipment-same h (omega arith) in
    row_counts (part h 0 2 p q (omega arith) (omega arith) (omega arith))
    (part h 3 3 (p + 3) (q + 3) refl refl (omega arith))
    (part h 8 16 (p + 8) (q + 8) refl refl (omega arith))
    (cc (byte_at h 2 (p + 2) (q + 2) refl refl (omega arith)))
    (cc (word_at h 6 (p + 6) (q + 6) refl refl (omega arith)))

-- the rows of two sheets that are the same from a and from b on, where their seasons start d places behind
pub row-bytes : {s t : List ℕ} (a b d : ℕ) → ((k : ℕ) → u8_at t (a + k) ≡ u8_at s (b + k)) → seasons_of t ≡ seasons_of s
    → seasons_start t ≡ a + d → seasons_start s ≡ b + d → (i : ℕ) → Same t s (row_place t i) (row_place s i) 24
row-bytes {s} a b d after seasons t-starts s-starts i =
    let k = d + 8 * seasons_of s + 24 * i in
    part {n = k + 24} (record { byte = λ j _. after j }) k 24 _ _ (omega (arith, seasons, t-starts)) (omega (arith, s-starts)) (omega arith)

-- n counts
pub counts_same : {s t : List ℕ} (p q n : ℕ) → Same s t p q (2 * n) → counts_at s p n ≡ counts_at t q n
unfolding counts_at
counts_same p q zero h = refl
counts_same p q (suc n) h =
    cc (
      word_at h 0 p q (omega arith) (omega arith) (omega arith),
      counts_same (p + 2) (q + 2) n (part h 2 (2 * n) (p + 2) (q + 2) refl refl (omega arith)),
    )
