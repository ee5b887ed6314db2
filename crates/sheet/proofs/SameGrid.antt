-- A version 2 sheet whose grid holds the products of the two lists of an accepted version 1 sheet, and which is the same after the
-- parking, is accepted, and gives the same values to all that follows.
-- Assumes nothing.
use mathlib.Core.Bool.{true, false}
use mathlib.Core.List.{List}
use mathlib.Core.Path.{◌≡◌, refl, sym, ◌∙◌}
use Prim.Native.Nat.{ℕ, suc, zero, ◌+◌, ◌*◌, ◌≤◌, ◌<◌}
use native.Mathlib.Nat.{mul-le-mul}
use native.Mathlib.Omega.{arith}
use Rattle.exact.specs.Factors.{total}
use Rattle.exact.proofs.Products.{products_total}
use Rattle.refusals.specs.Check.{Pass}
use Rattle.sheet.specs.Limits.{counts_limit, grid_limit}
use Rattle.sheet.specs.Versions.{version_of, has_grid, seasons_start}
use Rattle.sheet.specs.Bytes.{seasons_of, duration_counts, hour_counts, grid_counts, cells_of, row_place, season_at, seasons_from, season_list}
use Rattle.sheet.specs.Bytes.{row_at}
use Rattle.sheet.specs.Sheet.{sheet_check}
use Rattle.sheet.specs.RunningSums.{days_before}
use Rattle.sheet.specs.Demands.{Met, mark_demands, numbers_demands, season_demands, row_demands}
use Rattle.sheet.specs.SameGrid.{GridOf}
use Rattle.sheet.proofs.Versions.{most-few, start-grid, start-lists, cells-grid, cells-lists}
use Rattle.sheet.proofs.Conditions.{sheet-judged, met-accepted}
use Rattle.sheet.proofs.Accepted.{row-accepted}
use Rattle.sheet.proofs.Local.{Same, part, season-same, row_same, row-bytes}
use Rattle.sheet.proofs.RowDemands.{RowKept, row-met}
use Rattle.sheet.proofs.Alike.{Alike}

module _ {s t : List ℕ} (g : GridOf s t) where
  -- the one has lists and the other a grid,
  without-grid : has_grid s ≡ false
  without-grid = rw g.lists

  with-grid : has_grid t ≡ true
  with-grid = rw g.grid

  -- so the seasons start at 104 and at 1,160,
  start-s : seasons_start s ≡ 104
  start-s = start-lists s without-grid

  start-t : seasons_start t ≡ 1160
  start-t = start-grid t with-grid

  -- and what stands behind the parking is the same: each season,
  season : (j : ℕ) → season_at t j ≡ season_at s j
  unfolding season_at
  season j =
      season-same
      (part {n = 8 * j + 8} (record { byte = λ k _. g.after k }) (8 * j) 8 _ _ (omega (arith, start-t)) (omega (arith, start-s)) (omega arith))
      (omega arith)

  -- all of them,
  season-list : (j n : ℕ) → seasons_from t j n ≡ seasons_from s j n
  unfolding seasons_from
  season-list j zero = refl
  season-list j (suc n) = cc (season j, season-list (suc j) n)

  -- the days before a season,
  days : (n : ℕ) → days_before t n ≡ days_before s n
  unfolding days_before
  days zero = refl
  days (suc n) = cc (days n, season n)

  -- and each row.
  same-rows : (i : ℕ) → Same t s (row_place t i) (row_place s i) 24
  same-rows = row-bytes 1160 104 0 g.after g.seasons start-t start-s

  row : (i : ℕ) → row_at t i ≡ row_at s i
  unfolding row_at
  row i = row_same (same-rows i)

  -- The cells are the products,
  cells : cells_of t ≡ cells_of s
  cells = cells-grid t with-grid ∙ g.products-are ∙ sym (cells-lists s without-grid)

  -- which sum to P·Q.
  grid-total : total (grid_counts t) ≡ total (duration_counts s) * total (hour_counts s)
  grid-total = rw g.products-are (products_total (duration_counts s) (hour_counts s))

  -- Every demand that s meets is met by t: on the head,
  mark-met : Met (mark_demands s) → Met (mark_demands t)
  mark-met (long, ((e, v), p)) = (omega (arith, g.length-is), ((g.letter-0 ∙ e, g.letter-1 ∙ v), g.letter-2 ∙ p))

  numbers-met : Met (numbers_demands s) → Met (numbers_demands t)
  numbers-met (version, (seasons, (rows, zero-byte))) = (
    (omega (arith, g.grid), omega (arith, g.grid)),
    (
      rw g.seasons seasons,
      (
        (omega (arith, g.rows, rows.0), omega (arith, g.rows, rows.1, most-few t (rw g.grid), most-few s (rw g.lists))),
        λ _. g.byte-7 ∙ zero-byte (omega (arith, g.lists)),
      ),
    ),
  )

  -- on the grid,
  grid-met : (1 ≤ total (duration_counts s)) × (total (duration_counts s) ≤ counts_limit) → (1 ≤ total (hour_counts s))
      × (total (hour_counts s) ≤ counts_limit)
      → (1 ≤ total (grid_counts t)) × (total (grid_counts t) ≤ grid_limit)
  grid-met (p, P) (q, Q) = (omega (arith, grid-total, mul-le-mul p q), omega (arith, grid-total, mul-le-mul P Q))

  -- on each season,
  season-met : (j : ℕ) → Met (season_demands s j) → Met (season_demands t j)
  season-met j met = rw (days j, season j) met

  -- and on each row.
  kept : (i : ℕ) → RowKept s t i
  kept i = record { bytes = same-rows i; seasons = g.seasons; season = λ j _. season j }

  rows-met : (i : ℕ) → Met (row_demands s i) → Met (row_demands t i)
  rows-met i met =
      row-met (kept i) (record {
        fleet = λ new. absurd (omega (arith, g.grid));
        bytes = λ _. rw (row i) ((row-accepted s i met).no-mileage (omega (arith, g.lists)));
        mileage = λ new. absurd (omega (arith, g.grid));
      }) met

  -- So t is accepted where s is.
  pub grid-accepted : sheet_check s ≡ Pass → sheet_check t ≡ Pass
  grid-accepted h =
      let ((mark, numbers), (long, ((durations, (hours, grid)), (seasons, rows)))) = (sheet-judged s).passes h in
      let lists : version_of s < 2 = omega (arith, g.lists) in
      met-accepted t (
        (mark-met mark, numbers-met numbers),
        (
          omega (arith, long, start-s, start-t, g.length-is, g.seasons, g.rows),
          (
            ((λ old. absurd (omega (arith, g.grid))), ((λ old. absurd (omega (arith, g.grid))), (λ _. grid-met (durations lists) (hours lists)))),
            ((λ j l. season-met j (seasons j (omega (arith, g.seasons)))), (λ i l. rows-met i (rows i (omega (arith, g.rows))))),
          ),
        ),
      )

  -- and has the same values
  pub grid-alike : sheet_check s ≡ Pass → Alike s t
  unfolding season_list
  grid-alike h = record {
    seasons-same = g.seasons;
    rows_same = g.rows;
    check-same = grid-accepted h ∙ sym h;
    cells_same = cells;
    season-same = λ j _. season j;
    season-list-same = rw g.seasons (season-list 0 (seasons_of s));
    row_same = λ i _. row i;
  }
