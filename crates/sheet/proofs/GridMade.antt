-- The version 2 sheet with the products of a sheet's two lists, byte by byte: where every product is a u16 there is one, so what is
-- said of such sheets is said of some.
-- Assumes nothing.
use mathlib.Core.List.{List, [], ◌∷◌, ◌++◌}
use mathlib.Core.Path.{◌≡◌, refl, ◌∙◌, sym}
use Prim.Native.Nat.{ℕ, suc, zero, ◌+◌, ◌*◌, ◌/◌, ◌%◌, ◌≤◌, ◌<◌}
use native.Mathlib.Omega.{arith}
use lib.ListN.{length, get_or, drop, length-append, length-drop}
use lib.Seq.{get_or-append-add, get_or-drop}
use Rattle.exact.specs.Factors.{products}
use Rattle.exact.proofs.Products.{products-length}
use Rattle.sheet.specs.Integers.{u8_at}
use Rattle.sheet.specs.Versions.{version_of}
use Rattle.sheet.specs.Bytes.{counts_at, duration_counts, hour_counts, grid_counts}
use Rattle.sheet.specs.SameGrid.{GridOf}
use Rattle.sheet.proofs.Versions.{rows_few}
use Rattle.sheet.proofs.Local.{Same, counts_same}
use Rattle.sheet.proofs.Counts.{counts-length}
use Rattle.sheet.proofs.Accepted.{Bytes}

-- each count as two bytes
unfoldable pub pairs : List ℕ → List ℕ
pairs [] = []
pairs (c ∷ cs) = c % 256 ∷ c / 256 ∷ pairs cs

-- the head with version 2, the products, and what follows the lists
abbrev pub head2 : List ℕ → List ℕ
head2 s = u8_at s 0 ∷ u8_at s 1 ∷ u8_at s 2 ∷ 2 ∷ 0 ∷ u8_at s 5 ∷ u8_at s 6 ∷ u8_at s 7 ∷ []

unfoldable pub with_grid : List ℕ → List ℕ
with_grid s = head2 s ++ (pairs (products (duration_counts s) (hour_counts s)) ++ drop 104 s)

pairs-length : (cs : List ℕ) → length (pairs cs) ≡ 2 * length cs
unfolding pairs
pairs-length [] = refl
pairs-length (c ∷ cs) = omega (arith, pairs-length cs)

-- counts written in pairs are read again
counts-pairs : (cs rest : List ℕ) → counts_at (pairs cs ++ rest) 0 (length cs) ≡ cs
unfolding pairs counts_at
counts-pairs [] rest = refl
counts-pairs (c ∷ cs) rest =
    let l : List ℕ = pairs cs ++ rest in
    let shift : Same (c % 256 ∷ c / 256 ∷ l) l 2 0 (2 * length cs)
    = record { byte = λ k _. let e : 2 + k ≡ suc (suc k) = omega arith in let f : 0 + k ≡ k = omega arith in rw (e, f) } in
    let here : c % 256 + 256 * (c / 256) ≡ c = omega arith in
    cc (here, counts_same 2 0 (length cs) shift, counts-pairs cs rest)

-- 576 products
cells-length : (s : List ℕ) → length (products (duration_counts s) (hour_counts s)) ≡ 576
unfolding duration_counts hour_counts
cells-length s = products-length _ _ ∙ rw (counts-length s 8 24, counts-length s 56 24)

-- what follows the head, from byte 8 on
body : List ℕ → List ℕ
body s = pairs (products (duration_counts s) (hour_counts s)) ++ drop 104 s

after-head : (s : List ℕ) (n : ℕ) → Same (with_grid s) (body s) 8 0 n
unfolding with_grid body
after-head s n = record { byte = λ k _. let f : 0 + k ≡ k = omega arith in rw f (get_or-append-add (head2 s) (body s) k 0) }

-- the bytes after the grid
after-grid : (s : List ℕ) (k : ℕ) → u8_at (with_grid s) (1160 + k) ≡ u8_at s (104 + k)
unfolding body
after-grid s k =
    let cells = products (duration_counts s) (hour_counts s) in
    let a : 1160 + k ≡ 8 + (1152 + k) = omega arith in
    let b : 0 + (1152 + k) ≡ length (pairs cells) + k = omega (arith, pairs-length cells, cells-length s) in
    rw a ((after-head s (1153 + k)).byte (1152 + k) (omega arith) ∙ rw b (get_or-append-add (pairs cells) (drop 104 s) k 0 ∙ get_or-drop 104 s k 0))

made-length : (s : List ℕ) → 104 ≤ length s → length (with_grid s) ≡ length s + 1056
unfolding with_grid
made-length s h =
    let cells = products (duration_counts s) (hour_counts s) in
    length-append (head2 s) (pairs cells ++ drop 104 s) ∙
    omega (arith, length-append (pairs cells) (drop 104 s), pairs-length cells, cells-length s, length-drop 104 s)

-- a version 1 sheet with its head and its two lists, in version 2
pub grid-made : (s : List ℕ) → version_of s ≡ 1 → 104 ≤ length s → GridOf s (with_grid s)
unfolding with_grid grid_counts body
grid-made s version h = record {
  lists = version;
  grid = refl;
  letter-0 = refl;
  letter-1 = refl;
  letter-2 = refl;
  seasons = refl;
  rows = rows_few (with_grid s) refl ∙ sym (rows_few s (rw version));
  byte-7 = refl;
  products-are =
      counts_same 8 0 576 (after-head s 1152) ∙
      rw (← cells-length s) (counts-pairs (products (duration_counts s) (hour_counts s)) (drop 104 s));
  length-is = made-length s h;
  after = after-grid s;
}

-- bytes in two lists, one after the other
joined : (xs ys : List ℕ) → Bytes xs → Bytes ys → Bytes (xs ++ ys)
joined [] ys f g = g
joined (x ∷ xs) ys f g =
    let rest : Bytes (xs ++ ys) = joined xs ys (record { byte = λ k. f.byte (suc k) }) g in
    record { byte = λ k. elim k as (λ i. get_or (x ∷ (xs ++ ys)) i 0 < 256) [ zero ↦ f.byte 0 | suc j ↦ rest.byte j ] }

-- u16 counts are pairs of bytes
pairs-bytes : (cs : List ℕ) → ((k : ℕ) → get_or cs k 0 < 65536) → Bytes (pairs cs)
unfolding pairs
pairs-bytes [] h = record { byte = λ k. omega arith }
pairs-bytes (c ∷ cs) h =
    let low : c < 65536 = h 0 in
    let rest : Bytes (pairs cs) = pairs-bytes cs (λ k. h (suc k)) in
    let tail : (j : ℕ) → get_or (c / 256 ∷ pairs cs) j 0 < 256
    = λ j. elim j as (λ i. get_or (c / 256 ∷ pairs cs) i 0 < 256) [ zero ↦ omega arith | suc i ↦ rest.byte i ] in
    record { byte = λ k. elim k as (λ i. get_or (c % 256 ∷ (c / 256 ∷ pairs cs)) i 0 < 256) [ zero ↦ omega arith | suc j ↦ tail j ] }

-- so where every product is a u16 it is a byte string
pub made_bytes : (s : List ℕ) → Bytes s → ((k : ℕ) → get_or (products (duration_counts s) (hour_counts s)) k 0 < 65536) → Bytes (with_grid s)
unfolding with_grid
made_bytes s b h =
    let start : Bytes (head2 s) = record { byte = λ k. head_byte k } in
    joined (head2 s) _ start (joined _ (drop 104 s) (pairs-bytes _ h) (record { byte = λ k. rw (get_or-drop 104 s k 0) (b.byte (104 + k)) }))
  where
    head_byte : (k : ℕ) → get_or (head2 s) k 0 < 256
    head_byte zero = b.byte 0
    head_byte (suc zero) = b.byte 1
    head_byte (suc (suc zero)) = b.byte 2
    head_byte (suc (suc (suc zero))) = omega arith
    head_byte (suc (suc (suc (suc zero)))) = omega arith
    head_byte (suc (suc (suc (suc (suc zero))))) = b.byte 5
    head_byte (suc (suc (suc (suc (suc (suc zero)))))) = b.byte 6
    head_byte (suc (suc (suc (suc (suc (suc (suc zero))))))) = b.byte 7
    head_byte (suc (suc (suc (suc (suc (suc (suc (suc k)))))))) = omega arith
