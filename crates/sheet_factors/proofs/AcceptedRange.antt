-- The seasons, rows and counts of an accepted sheet are in range, so that all its factors are enclosed and of limited size.
-- Assumes nothing.
use mathlib.Core.Bool.{Bool, true, false}
use mathlib.Core.List.{List}
use mathlib.Core.Path.{◌≡◌, refl, sym, ◌∙◌}
use Prim.Native.Nat.{ℕ, suc, zero, ◌+◌, ◌≤◌, ◌<◌}
use native.Mathlib.Omega.{arith}
use lib.ListN.{length}
use Rattle.exact.specs.declared.Season.{Season}
use Rattle.exact.specs.Factors.{total, products}
use Rattle.refusals.specs.Check.{Pass}
use Rattle.sheet.specs.Sheet.{sheet_check}
use Rattle.parking.specs.Grid.{CellsInRange}
use Rattle.parking.proofs.Products.{products-in-range}
use Rattle.factors.proofs.Sizes.{high_micrograms-most}
use Rattle.sheet.specs.Versions.{has_grid}
use Rattle.sheet.specs.Bytes.{seasons_of, rows_of, duration_counts, hour_counts, grid_counts, cells_of, season_at, seasons_from, season_list, row_at}
use Rattle.sheet.specs.RunningSums.{days_before}
use Rattle.sheet.proofs.Versions.{grid-version, lists-version, cells-grid, cells-lists}
use Rattle.sheet.proofs.Counts.{counts-length}
use Rattle.sheet.proofs.Accepted.{Bytes, AcceptedRow, Accepted, accepted}
use Rattle.sheet.proofs.InRange.{row-in-range}
use Rattle.masses.specs.Bands.{all_days}
use Rattle.masses.specs.AnyCounts.{Every, Shares, InRange, Enclosed}
use Rattle.masses.proofs.AnyCounts.{factors-enclosed}
use Rattle.masses.proofs.MassSizes.{Sized, RowSized}

-- The counts.

-- 24 counts in each list,
durations-length : (s : List ℕ) → length (duration_counts s) ≡ 24
unfolding duration_counts
durations-length s = counts-length s 8 24

hours-length : (s : List ℕ) → length (hour_counts s) ≡ 24
unfolding hour_counts
hours-length s = counts-length s 56 24

-- and 576 in a grid
grid-length : (s : List ℕ) → length (grid_counts s) ≡ 576
unfolding grid_counts
grid-length s = counts-length s 8 576

-- the two lists of a sheet without a grid are in range, and so are the cells, whichever they are
lists-most : {s : List ℕ} → Accepted s → has_grid s ≡ false → (total (duration_counts s) ≤ 1000) × (total (hour_counts s) ≤ 1000)
lists-most {s} a h = let old = lists-version s h in ((a.durations old).1, (a.hours old).1)

pub cells-in-range : {s : List ℕ} → Accepted s → CellsInRange (cells_of s)
cells-in-range {s} a = go (has_grid s) refl
  where
    go : (b : Bool) → has_grid s ≡ b → CellsInRange (cells_of s)
    go true h =
        let (least, most) = a.grid (grid-version s h) in
        rw (cells-grid s h) (record { length-is = grid-length s; total-least = least; total-most = omega arith })
    go false h =
        let old = lists-version s h in
        let (p, P) = a.durations old in
        let (q, Q) = a.hours old in
        rw (cells-lists s h) (products-in-range (duration_counts s) (hour_counts s) (durations-length s) (hours-length s) p P q Q)

-- What a sheet's cells are read as, where a test has shown whether it has a grid.
module _ (s : List ℕ) {grid : Bool} (passed : sheet_check s ≡ Pass) (tested : grid ≡ has_grid s) where
  are-in-range : {cells : List ℕ} → cells ≡ cells_of s → (cells ≡ cells_of s) × CellsInRange cells
  are-in-range e = (e, rw e (cells-in-range (accepted s passed)))

  -- the counts of the grid
  pub grid-read : {cells : List ℕ} → grid ≡ true → cells ≡ grid_counts s → (cells ≡ cells_of s) × CellsInRange cells
  grid-read h e = are-in-range (e ∙ sym (cells-grid s (sym tested ∙ h)))

  module _ (h : grid ≡ false) {durations hours : List ℕ} (d : durations ≡ duration_counts s) (e : hours ≡ hour_counts s) where
    -- or two lists,
    pub lists-in-range : (total durations ≤ 1000) × (total hours ≤ 1000)
    lists-in-range = rw (d, e) (lists-most (accepted s passed) (sym tested ∙ h))

    -- with their products
    pub products-read : {cells : List ℕ} → cells ≡ products durations hours → (cells ≡ cells_of s) × CellsInRange cells
    products-read f = are-in-range (rw (d, e) at f ∙ sym (cells-lists s (sym tested ∙ h)))

-- at least one parking is counted
pub cells-least : {s : List ℕ} → Accepted s → 0 < total (cells_of s)
cells-least a = (cells-in-range a).total-least

-- the shares of row i
pub row-shares : {s : List ℕ} {i : ℕ} → AcceptedRow s i → Shares (row_at s i)
row-shares r = record { carburettor-most = r.carburettor-most; hot-most = r.hot-most }

-- season j and row i are in range
pub in-range : {s : List ℕ} {i j : ℕ} → Bytes s → Accepted s → i < rows_of s → j < seasons_of s → InRange (row_at s i) (season_at s j)
in-range {s} {i} {j} bytes a row season = record { season-in = (a.season j season).in-range bytes; row_in = row-in-range bytes a row season }

-- every factor of an accepted sheet lies between its figures in micrograms
pub enclosed : {s : List ℕ} {i j : ℕ} → Bytes s → Accepted s → i < rows_of s → j < seasons_of s → Enclosed (cells_of s) (season_at s j) (row_at s i)
enclosed {s} {i} {j} bytes a row season =
    factors-enclosed (cells_of s) (cells-least a) (row_at s i) (season_at s j) (in-range bytes a row season)

-- and is no larger than the limits let it be
pub sized : {s : List ℕ} {i j : ℕ} → Bytes s → Accepted s → i < rows_of s → j < seasons_of s → Sized (cells_of s) (row_at s i) (season_at s j)
sized {s} {i} {j} bytes a row season =
    record { most = high_micrograms-most ((a.season j season).in-range bytes) (row-in-range bytes a row season) (cells_of s) }

-- All seasons.

-- what holds of each of n seasons from i on holds in their list
every-from : (P : Season → Type 0) (s : List ℕ) (i n : ℕ) → ((j : ℕ) → j < i + n → P (season_at s j)) → Every P (seasons_from s i n)
unfolding seasons_from
every-from P s i zero h = tt
every-from P s i (suc n) h = (h i (omega arith), every-from P s (suc i) n (λ j l. h j (omega arith)))

-- and so of all seasons
pub every-season : (P : Season → Type 0) (s : List ℕ) → ((j : ℕ) → j < seasons_of s → P (season_at s j)) → Every P (season_list s)
unfolding season_list
every-season P s h = every-from P s 0 (seasons_of s) (λ j l. h j (omega arith))

-- the days of the first i seasons and of n more
days-from : (s : List ℕ) (i n k : ℕ) → i + n ≡ k → days_before s i + all_days (seasons_from s i n) ≡ days_before s k
unfolding seasons_from all_days days_before
days-from s i zero k e = let here : i ≡ k = omega arith in rw here (omega arith)
days-from s i (suc n) k e = omega (arith, days-from s (suc i) n k (omega arith))

-- "the days of all seasons"
all-days : (s : List ℕ) → all_days (season_list s) ≡ days_before s (seasons_of s)
unfolding season_list days_before
all-days s = omega (arith, days-from s 0 (seasons_of s) (seasons_of s) (omega arith))

-- row i over all seasons
pub row_sized : {s : List ℕ} {i : ℕ} → Bytes s → Accepted s → i < rows_of s → RowSized (cells_of s) (season_list s) (row_at s i)
row_sized {s} {i} bytes a row = record {
  shares = row-shares (a.row i row);
  trips-most = (a.row i row).trips-most;
  days-most = rw (all-days s) a.days-most;
  sized = every-season _ s (λ j l. sized bytes a row l);
}
