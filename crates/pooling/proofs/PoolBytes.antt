-- What stands where in a pooled sheet: the first sheet's bytes but for its row count, then the second's rows; so the parking, the seasons
-- and the rows are theirs.
-- Assumes nothing.
use mathlib.Core.Bool.{true}
use mathlib.Core.List.{List, [], ◌∷◌, ◌++◌}
use mathlib.Core.Path.{◌≡◌, refl, sym, ap, ◌∙◌}
use Prim.Native.Nat.{ℕ, suc, zero, ◌+◌, ◌*◌, ◌/◌, ◌%◌, ◌≤◌, ◌<◌}
use native.Mathlib.Omega.{arith}
use lib.ListN.{length, get_or, set, drop, length-append, length-drop, get_or-append}
use lib.Seq.{sets, length-sets, get_or-append-add, get_or-drop, get_or-set_same, get_or-set_other, lt-length-set}
use Rattle.refusals.specs.Check.{Pass}
use Rattle.sheet.specs.Limits.{many_rows_limit, longest}
use Rattle.sheet.specs.Integers.{u8_at}
use Rattle.sheet.specs.Versions.{version_of, has_grid, has_many_rows, seasons_start}
use Rattle.sheet.specs.Bytes.{seasons_of, rows_of, row_place, row_at}
use Rattle.sheet.specs.Sheet.{sheet_check}
use Rattle.sheet.specs.RunningSums.{vehicles_before}
use Rattle.sheet.proofs.Versions.{rows-many, most-many, start-grid}
use Rattle.sheet.proofs.Accepted.{accepted}
use Rattle.sheet.proofs.Local.{Same, row_same}
use Rattle.sheet.proofs.NextVersion.{SheetKept}
use Rattle.pooling.specs.Pool.{region_version, rows_together, pool, shared_bytes}
use Rattle.pooling.specs.PoolCall.{Agree}

-- a version 4 sheet that is accepted
pub record Region (s : List ℕ) : Type 0 where
  pub version : version_of s ≡ region_version
  pub passed : sheet_check s ≡ Pass

-- what its version says
module _ {s : List ℕ} (r : Region s) where
  pub grid : has_grid s ≡ true
  grid = rw r.version

  many : has_many_rows s ≡ true
  many = rw r.version

  pub start : seasons_start s ≡ 1160
  start = start-grid s grid

  pub length-is : length s ≡ 1160 + 8 * seasons_of s + 24 * rows_of s
  length-is = omega (arith, (accepted s r.passed).length-is, start)

  pub rows-most : rows_of s ≤ many_rows_limit
  rows-most = omega (arith, (accepted s r.passed).rows-most, most-many s many)

  pub length_most : length s ≤ longest
  length_most = omega (arith, length-is, rows-most, (accepted s r.passed).seasons-most)

-- two such sheets with equal seasons and parking bytes
pub record Pair (a b : List ℕ) : Type 0 where
  pub first : Region a
  pub second : Region b
  pub agree : Agree a b

-- in the other order too
pub exchanged : {a b : List ℕ} → Pair a b → Pair b a
exchanged h = record {
  first = h.second;
  second = h.first;
  agree = (sym h.agree.0, λ k l. sym (h.agree.1 k (omega (arith, h.agree.0))));
}

-- The bytes, for any two lists.
module _ (a b : List ℕ) where
  -- the row count's two bytes
  abbrev count : List ℕ
  count = rows_together a b % 256 ∷ rows_together a b / 256 ∷ []

  abbrev counted : List ℕ
  counted = sets a 6 count

  -- a byte of the first sheet, but for its row count
  pub first_byte : (k : ℕ) → k < length a → ¬ (k ≡ 6) → ¬ (k ≡ 7) → u8_at (pool a b) k ≡ u8_at a k
  unfolding pool
  first_byte k l m n =
      get_or-append counted (drop (row_place b 0) b) 0 k (rw (length-sets a 6 count) l) ∙
      get_or-set_other (set a 6 (rows_together a b % 256)) 7 k (rows_together a b / 256) 0 n ∙
      get_or-set_other a 6 k (rows_together a b % 256) 0 m

  -- the row count
  pub low_byte : 8 ≤ length a → u8_at (pool a b) 6 ≡ rows_together a b % 256
  unfolding pool
  low_byte l =
      get_or-append counted (drop (row_place b 0) b) 0 6 (rw (length-sets a 6 count) (omega arith)) ∙
      get_or-set_other (set a 6 (rows_together a b % 256)) 7 6 (rows_together a b / 256) 0 (λ e. omega arith) ∙
      get_or-set_same a 6 (rows_together a b % 256) 0 (omega arith)

  pub high_byte : 8 ≤ length a → u8_at (pool a b) 7 ≡ rows_together a b / 256
  unfolding pool
  high_byte l =
      get_or-append counted (drop (row_place b 0) b) 0 7 (rw (length-sets a 6 count) (omega arith)) ∙
      get_or-set_same (set a 6 (rows_together a b % 256)) 7 (rows_together a b / 256) 0 (lt-length-set a 6 (rows_together a b % 256) (omega arith))

  -- a byte of the second's rows
  pub second-byte : (k : ℕ) → u8_at (pool a b) (length a + k) ≡ u8_at b (row_place b 0 + k)
  unfolding pool
  second-byte k =
      ap (λ (n : ℕ). get_or (counted ++ drop (row_place b 0) b) (n + k) 0) (sym (length-sets a 6 count)) ∙
      get_or-append-add counted (drop (row_place b 0) b) k 0 ∙ get_or-drop (row_place b 0) b k 0

  -- how many there are
  length-pool : row_place b 0 ≤ length b → length (pool a b) + row_place b 0 ≡ length a + length b
  unfolding pool
  length-pool l = omega (arith, length-append counted (drop (row_place b 0) b), length-sets a 6 count, length-drop (row_place b 0) b)

-- the length is that of the first and of the second's rows
pub pool-long : (a : List ℕ) {b : List ℕ} → Region b → length (pool a b) ≡ length a + 24 * rows_of b
pool-long a {b} r = omega (arith, length-pool a b (omega (arith, start r, length-is r)), start r, length-is r)

-- Of two sheets that are pooled.
module _ {a b : List ℕ} (h : Pair a b) where
  long : 1168 ≤ length a
  long = omega (arith, length-is h.first, (accepted a h.first.passed).seasons-least)

  head : (k : ℕ) → k < 6 → u8_at (pool a b) k ≡ u8_at a k
  head k l = first_byte a b k (omega (arith, long)) (λ e. omega arith) (λ e. omega arith)

  pub version-pool : version_of (pool a b) ≡ 4
  version-pool = cc (head 3 (omega arith), head 4 (omega arith), h.first.version)

  pub seasons-pool : seasons_of (pool a b) ≡ seasons_of a
  seasons-pool = head 5 (omega arith)

  pub letters-pool : (k : ℕ) → k < 3 → u8_at (pool a b) k ≡ u8_at a k
  letters-pool k l = head k (omega arith)

  grid-pool : has_grid (pool a b) ≡ true
  grid-pool = rw version-pool

  pub many-pool : has_many_rows (pool a b) ≡ true
  many-pool = rw version-pool

  start-pool : seasons_start (pool a b) ≡ 1160
  start-pool = start-grid (pool a b) grid-pool

  -- the row count is that of both
  pub rows-pool : rows_of (pool a b) ≡ rows_of a + rows_of b
  rows-pool =
      omega (
        arith,
        rows-many (pool a b) many-pool,
        low_byte a b (omega (arith, long)),
        high_byte a b (omega (arith, long)),
        rows-most h.first,
        rows-most h.second,
      )

  -- parking and seasons are those of the first,
  pub kept-first : SheetKept a (pool a b)
  kept-first = record {
    grid-of-s = grid h.first;
    grid-of-t = grid-pool;
    seasons = seasons-pool;
    bytes = λ k l. first_byte a b (8 + k) (omega (arith, length-is h.first)) (λ e. omega arith) (λ e. omega arith);
  }

  -- and of the second
  pub kept_second : SheetKept b (pool a b)
  kept_second = record {
    grid-of-s = grid h.second;
    grid-of-t = grid-pool;
    seasons = seasons-pool ∙ h.agree.0;
    bytes = λ k l.
        let within : k < shared_bytes (seasons_of a) = omega (arith, h.agree.0) in
        kept-first.bytes k within ∙ h.agree.1 k within;
  }

  -- where a row stands
  pub place-pool : (i : ℕ) → row_place (pool a b) i ≡ row_place a i
  place-pool i = omega (arith, start-pool, start h.first, seasons-pool)

  -- row i of the first is row i of the pool,
  pub first-same : (i : ℕ) → i < rows_of a → Same (pool a b) a (row_place (pool a b) i) (row_place a i) 24
  first-same i l = record {
    byte = λ k m.
        rw (place-pool i)
        (first_byte a b (row_place a i + k) (omega (arith, start h.first, length-is h.first))
        (λ e. omega (arith, start h.first)) (λ e. omega (arith, start h.first)));
  }

  -- and row i of the second stands behind all rows of the first
  pub second-same : (i : ℕ) → i < rows_of b → Same (pool a b) b (row_place (pool a b) (rows_of a + i)) (row_place b i) 24
  second-same i l = record {
    byte = λ k m.
        let x : row_place (pool a b) (rows_of a + i) + k ≡ length a + (24 * i + k) =
        omega (arith, place-pool (rows_of a + i), start h.first, length-is h.first) in
        let y : row_place b 0 + (24 * i + k) ≡ row_place b i + k = omega arith in
        rw x (second-byte a b (24 * i + k) ∙ ap (u8_at b) y);
  }

  pub row_first : (i : ℕ) → i < rows_of a → row_at (pool a b) i ≡ row_at a i
  unfolding row_at
  row_first i l = row_same (first-same i l)

  pub row-second : (i : ℕ) → i < rows_of b → row_at (pool a b) (rows_of a + i) ≡ row_at b i
  unfolding row_at
  row-second i l = row_same (second-same i l)

  -- the vehicles of the first rows,
  pub vehicles-first : (n : ℕ) → n ≤ rows_of a → vehicles_before (pool a b) n ≡ vehicles_before a n
  unfolding vehicles_before
  vehicles-first zero l = refl
  vehicles-first (suc n) l = cc (vehicles-first n (omega arith), row_first n l)

  -- and of those behind them
  pub vehicles-second : (n : ℕ) → n ≤ rows_of b → vehicles_before (pool a b) (rows_of a + n) ≡ vehicles_before a (rows_of a) + vehicles_before b n
  unfolding vehicles_before
  vehicles-second zero l = let e : rows_of a + 0 ≡ rows_of a = omega arith in rw e (vehicles-first (rows_of a) (omega arith) ∙ omega arith)
  vehicles-second (suc n) l =
      let e : rows_of a + suc n ≡ suc (rows_of a + n) = omega arith in
      rw (e, row-second n l) (omega (arith, vehicles-second n (omega arith)))
