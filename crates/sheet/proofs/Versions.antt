-- What each version reads, by whether it has a grid.
-- Assumes nothing.
use mathlib.Core.Bool.{Bool, true, false}
use mathlib.Core.List.{List}
use mathlib.Core.Path.{◌≡◌, refl}
use Prim.Native.Nat.{ℕ, ◌≤◌, ◌<◌}
use native.Mathlib.Omega.{arith}
use borrow.Author.Tests.{leb-true, leb-false}
use Rattle.exact.specs.Factors.{products}
use Rattle.sheet.specs.Limits.{rows_limit, many_rows_limit}
use Rattle.sheet.specs.Integers.{u8_at, u16_at}
use Rattle.sheet.specs.Versions.{version_of, has_grid, has_many_rows, rows_most, seasons_start}
use Rattle.sheet.specs.Bytes.{rows_of, duration_counts, hour_counts, grid_counts, cells_of}

-- the version of a sheet with a grid, and of one without
pub grid-version : (s : List ℕ) → has_grid s ≡ true → 2 ≤ version_of s
grid-version s h = leb-true 2 (version_of s) h

pub lists-version : (s : List ℕ) → has_grid s ≡ false → version_of s < 2
lists-version s h = leb-false 2 (version_of s) h

-- how many rows, and how many at most
pub rows-many : (s : List ℕ) → has_many_rows s ≡ true → rows_of s ≡ u16_at s 6
unfolding rows_of
rows-many s h = rw (rows_of, h) refl

pub rows_few : (s : List ℕ) → has_many_rows s ≡ false → rows_of s ≡ u8_at s 6
unfolding rows_of
rows_few s h = rw (rows_of, h) refl

pub most-many : (s : List ℕ) → has_many_rows s ≡ true → rows_most s ≡ many_rows_limit
unfolding rows_most
most-many s h = rw (rows_most, h) refl

pub most-few : (s : List ℕ) → has_many_rows s ≡ false → rows_most s ≡ rows_limit
unfolding rows_most
most-few s h = rw (rows_most, h) refl

-- a thousand in every version
pub rows-limit : (s : List ℕ) → rows_most s ≤ many_rows_limit
rows-limit s = go (has_many_rows s) refl
  where
    go : (b : Bool) → has_many_rows s ≡ b → rows_most s ≤ many_rows_limit
    go true h = omega (arith, most-many s h)
    go false h = omega (arith, most-few s h)

-- where the seasons start
pub start-grid : (s : List ℕ) → has_grid s ≡ true → seasons_start s ≡ 1160
unfolding seasons_start
start-grid s h = rw (seasons_start, h) refl

pub start-lists : (s : List ℕ) → has_grid s ≡ false → seasons_start s ≡ 104
unfolding seasons_start
start-lists s h = rw (seasons_start, h) refl

-- the same in sheets of one version
pub start-same : (s t : List ℕ) → version_of t ≡ version_of s → seasons_start t ≡ seasons_start s
unfolding seasons_start
start-same s t e = rw (seasons_start, e) refl

-- the counts of the cells
pub cells-grid : (s : List ℕ) → has_grid s ≡ true → cells_of s ≡ grid_counts s
unfolding cells_of
cells-grid s h = rw (cells_of, h) refl

pub cells-lists : (s : List ℕ) → has_grid s ≡ false → cells_of s ≡ products (duration_counts s) (hour_counts s)
unfolding cells_of
cells-lists s h = rw (cells_of, h) refl

-- in every version the seasons start after the head and the lists, and at byte 1,160 at the latest
pub start_between : (s : List ℕ) → (104 ≤ seasons_start s) × (seasons_start s ≤ 1160)
start_between s = go (has_grid s) refl
  where
    go : (b : Bool) → has_grid s ≡ b → (104 ≤ seasons_start s) × (seasons_start s ≤ 1160)
    go true h = let e = start-grid s h in (omega arith, omega arith)
    go false h = let e = start-lists s h in (omega arith, omega arith)
