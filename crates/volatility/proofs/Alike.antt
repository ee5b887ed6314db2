-- Two sheets alike but for one season's vapour pressure have the same parking and the same rows, and their seasons differ in the pressure alone.
-- Assumes nothing.
use mathlib.Core.Bool.{Bool, true, false}
use mathlib.Core.List.{List}
use mathlib.Core.Path.{◌≡◌, refl, sym, ◌∙◌, subst}
use Prim.Native.Nat.{ℕ, suc, zero, ◌+◌, ◌≤◌}
use native.Mathlib.Decide.{dec_le}
use native.Mathlib.Omega.{arith}
use Rattle.exact.proofs.Volatile.{at_pressure, MoreVolatile, none, next}
use Rattle.sheet.specs.Integers.{u16_at}
use Rattle.sheet.specs.Versions.{version_of, has_grid, has_many_rows, seasons_start}
use Rattle.sheet.specs.Bytes.{seasons_of, rows_of, duration_counts, hour_counts, grid_counts, cells_of, season_place, row_place}
use Rattle.sheet.specs.Bytes.{season_from, season_at, seasons_from, season_list, row_at}
use Rattle.sheet.proofs.Versions.{rows-many, rows_few, start-grid, start-lists, start-same, start_between, cells-grid, cells-lists}
use Rattle.sheet.proofs.Local.{Same, word_at, row_same, counts_same}
use Rattle.volatility.specs.Pressure.{HigherPressure, pressure_place}

module _ {s t : List ℕ} {j : ℕ} (h : HigherPressure s t j) where
  -- n bytes before the seasons, and n behind them
  before : (p n : ℕ) → p + n ≤ seasons_start s → Same t s p p n
  before p n l = record { byte = λ k b. h.elsewhere (p + k) (λ e. omega arith) (λ e. omega arith) }

  behind : (p n : ℕ) → row_place s 0 ≤ p → Same t s p p n
  behind p n l = let there = h.season-of-s in record { byte = λ k b. h.elsewhere (p + k) (λ e. omega arith) (λ e. omega arith) }

  head : Same t s 0 0 8
  head = let late = start_between s in before 0 8 (omega arith)

  -- "of the same version"
  pub version-same : version_of t ≡ version_of s
  version-same = word_at head 3 3 3 refl refl (omega arith)

  start : seasons_start t ≡ seasons_start s
  start = start-same s t version-same

  seasons-same : seasons_of t ≡ seasons_of s
  seasons-same = head.byte 5 (omega arith)

  pub rows_same : rows_of t ≡ rows_of s
  rows_same = go (has_many_rows s) refl
    where
      go : (b : Bool) → has_many_rows s ≡ b → rows_of t ≡ rows_of s
      go true e = rows-many t (rw version-same e) ∙ word_at head 6 6 6 refl refl (omega arith) ∙ sym (rows-many s e)
      go false e = rows_few t (rw version-same e) ∙ head.byte 6 (omega arith) ∙ sym (rows_few s e)

  -- the counts of the cells, by whether there is a grid
  pub cells_same : cells_of t ≡ cells_of s
  unfolding grid_counts duration_counts hour_counts
  cells_same = go (has_grid s) refl
    where
      go : (b : Bool) → has_grid s ≡ b → cells_of t ≡ cells_of s
      go true e =
          cells-grid t (rw version-same e) ∙ counts_same 8 8 576 (before 8 1152 (omega (arith, start-grid s e))) ∙ sym (cells-grid s e)
      go false e =
          let late = start-lists s e in
          cells-lists t (rw version-same e) ∙
          rw (counts_same 8 8 24 (before 8 48 (omega arith)), counts_same 56 56 24 (before 56 48 (omega arith))) (sym (cells-lists s e))

  -- a row
  pub row-alike : (i : ℕ) → row_at t i ≡ row_at s i
  unfolding row_at
  row-alike i = rw (start, seasons-same) (row_same (behind (row_place s i) 24 (omega arith)))

  -- a season but for its pressure
  six : (i : ℕ) → Same t s (season_place s i) (season_place s i) 6
  six i = record { byte = λ k b. h.elsewhere (season_place s i + k) (λ e. omega arith) (λ e. omega arith) }

  season-at : (i : ℕ) → season_at t i ≡ at_pressure (season_at s i) (u16_at t (season_place s i + 6))
  unfolding season_at season_from
  season-at i =
      let p : ℕ = season_place s i in
      rw (
        start,
        word_at (six i) 0 p p (omega arith) (omega arith) (omega arith),
        word_at (six i) 2 (p + 2) (p + 2) refl refl (omega arith),
        word_at (six i) 4 (p + 4) (p + 4) refl refl (omega arith),
      )

  -- its pressure: the same, or in season j as high or higher
  pressure-more : (i : ℕ) → (season_at s i).vp ≤ u16_at t (season_place s i + 6)
  unfolding season_at season_from
  pressure-more i =
      let same : ¬ (i ≡ j) → u16_at s (season_place s i + 6) ≤ u16_at t (season_place s i + 6)
      = λ d.
      let low = h.elsewhere (season_place s i + 6) (λ e. d (omega arith)) (λ e. omega arith) in
      let high = h.elsewhere (season_place s i + 6 + 1) (λ e. omega arith) (λ e. d (omega arith)) in
      omega arith in
      elim (dec_le (suc i) j) [
        | yes a ↦ same (λ e. omega arith)
        | no a ↦
            elim (dec_le (suc j) i) [
              | yes b ↦ same (λ e. omega arith)
              | no b ↦
                  let e : j ≡ i = omega arith in
                  subst (λ (k : ℕ). u16_at s (pressure_place s k) ≤ u16_at t (pressure_place s k)) e h.higher
            ]
      ]

  seasons-more : (i n : ℕ) → MoreVolatile (seasons_from s i n) (seasons_from t i n)
  unfolding seasons_from
  seasons-more i zero = none
  seasons-more i (suc n) = rw (season-at i) (next (season_at s i) _ (pressure-more i) (seasons-more (suc i) n))

  pub all_more : MoreVolatile (season_list s) (season_list t)
  unfolding season_list
  all_more = rw seasons-same (seasons-more 0 (seasons_of s))
