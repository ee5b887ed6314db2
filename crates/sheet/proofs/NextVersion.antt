-- An accepted version 2 sheet is accepted in version 3 too, with the same values, and one of version 3 in version 4, where its vehicles are
-- not too many; and so are a row's values in any version 3 sheet of the same parking and seasons.
-- Assumes nothing.
use mathlib.Core.Bool.{Bool, true, false}
use mathlib.Core.List.{List}
use mathlib.Core.Path.{◌≡◌, refl, sym, ◌∙◌}
use Prim.Native.Nat.{ℕ, suc, zero, ◌+◌, ◌*◌, ◌≤◌, ◌<◌}
use native.Mathlib.Omega.{arith}
use lib.ListN.{length}
use Rattle.exact.specs.declared.Season.{Season}
use Rattle.refusals.specs.Check.{Pass}
use Rattle.sheet.specs.Integers.{u8_at, u16_at}
use Rattle.sheet.specs.Versions.{has_grid, has_many_rows, seasons_start}
use Rattle.sheet.specs.Bytes.{seasons_of, rows_of, grid_counts, cells_of, row_place, season_at, seasons_from, season_list, row_at}
use Rattle.sheet.specs.Limits.{fleet_limit}
use Rattle.sheet.specs.Sheet.{some_season, sheet_check}
use Rattle.sheet.specs.RunningSums.{days_before, vehicles_before}
use Rattle.sheet.specs.Demands.{Met, MileageRight, numbers_demands}
use Rattle.sheet.specs.NextVersion.{NextVersion, SameRow, FourthVersion}
use Rattle.sheet.proofs.Versions.{grid-version, rows-many, rows_few, most-many, most-few, start-grid, cells-grid}
use Rattle.sheet.proofs.Conditions.{sheet-judged, met-accepted}
use Rattle.sheet.proofs.Accepted.{accepted}
use Rattle.sheet.proofs.Local.{Same, part, season-same, row_same, row-bytes, counts_same}
use Rattle.sheet.proofs.RowDemands.{VersionMet, row-met}
use Rattle.sheet.proofs.Fleet.{vehicles-more, vehicles-rise}
use Rattle.sheet.proofs.Alike.{Alike}

-- Two sheets with a grid and with the same bytes from the parking to the last season.
pub record SheetKept (s t : List ℕ) : Type 0 where
  pub grid-of-s : has_grid s ≡ true
  pub grid-of-t : has_grid t ≡ true
  pub seasons : seasons_of t ≡ seasons_of s
  pub bytes : (k : ℕ) → k < 1152 + 8 * seasons_of s → u8_at t (8 + k) ≡ u8_at s (8 + k)

module _ {s t : List ℕ} (same : SheetKept s t) where
  -- n bytes that stand k places on are the same:
  from : (n k : ℕ) {p q : ℕ} → p ≡ 8 + k → q ≡ 8 + k → k + n ≤ 1152 + 8 * seasons_of s → Same t s p q n
  from n k {p} {q} e f h = part (record { byte = same.bytes }) k n p q e f h

  -- the counts of the grid, which are those of the cells,
  pub counts-kept : grid_counts t ≡ grid_counts s
  unfolding grid_counts
  counts-kept = counts_same 8 8 576 (from 1152 0 refl refl (omega arith))

  pub cells-kept : cells_of t ≡ cells_of s
  cells-kept = cells-grid t same.grid-of-t ∙ counts-kept ∙ sym (cells-grid s same.grid-of-s)

  -- each season,
  pub season-kept : (j : ℕ) → j < seasons_of s → season_at t j ≡ season_at s j
  unfolding season_at
  season-kept j l =
      season-same
      (from 8 (1152 + 8 * j) (omega (arith, start-grid t same.grid-of-t)) (omega (arith, start-grid s same.grid-of-s)) (omega arith))
      (omega arith)

  -- all of them,
  listed : (j n : ℕ) → j + n ≤ seasons_of s → seasons_from t j n ≡ seasons_from s j n
  unfolding seasons_from
  listed j zero l = refl
  listed j (suc n) l = cc (season-kept j (omega arith), listed (suc j) n (omega arith))

  pub season-list-kept : season_list t ≡ season_list s
  unfolding season_list
  season-list-kept = rw same.seasons (listed 0 (seasons_of s) (omega arith))

  -- the days before a season
  pub days-kept : (n : ℕ) → n ≤ seasons_of s → days_before t n ≡ days_before s n
  unfolding days_before
  days-kept zero l = refl
  days-kept (suc n) l = cc (days-kept n (omega arith), season-kept n l)

  -- and what holds in some season are the same
  pub some-kept : (wrong : Season → Bool) (n : ℕ) → n ≤ seasons_of s → some_season wrong t n ≡ some_season wrong s n
  unfolding some_season
  some-kept wrong zero l = refl
  some-kept wrong (suc n) l = cc (some-kept wrong n (omega arith), season-kept n l)

-- A row.
module _ {s t : List ℕ} {i j : ℕ} (same : SameRow s t i j) where
  pub kept : SheetKept s t
  kept = record { grid-of-s = rw same.old; grid-of-t = rw same.new; seasons = same.seasons; bytes = same.parking-and-seasons }

  pub row_kept : row_at t j ≡ row_at s i
  unfolding row_at
  row_kept = row_same (record { byte = λ k l. same.row k l })

  -- "0 keeps the written load": number 21 has seen to it
  pub no-mileage : sheet_check s ≡ Pass → (row_at t j).mileage ≡ 0
  no-mileage h = rw row_kept (((accepted s h).row i same.row-of-s).no-mileage (omega (arith, same.old)))

-- Two sheets with a grid and with the same bytes but those of the version.
record Renumbered (s t : List ℕ) : Type 0 where
  grid-of-s : has_grid s ≡ true
  grid-of-t : has_grid t ≡ true
  rows : rows_of t ≡ rows_of s
  length-is : length t ≡ length s
  letters : (k : ℕ) → k < 3 → u8_at t k ≡ u8_at s k
  after : (k : ℕ) → u8_at t (5 + k) ≡ u8_at s (5 + k)

module _ {s t : List ℕ} (next : Renumbered s t) where
  seasons : seasons_of t ≡ seasons_of s
  seasons = next.after 0

  same-before-rows : SheetKept s t
  same-before-rows = record {
    grid-of-s = next.grid-of-s;
    grid-of-t = next.grid-of-t;
    seasons = seasons;
    bytes = λ k l. let e : 8 + k ≡ 5 + (3 + k) = omega arith in rw e (next.after (3 + k));
  }

  start-s : seasons_start s ≡ 1160
  start-s = start-grid s next.grid-of-s

  start-t : seasons_start t ≡ 1160
  start-t = start-grid t next.grid-of-t

  same-rows : (i : ℕ) → Same t s (row_place t i) (row_place s i) 24
  same-rows = row-bytes 5 5 1155 next.after seasons start-t start-s

  row : (i : ℕ) → row_at t i ≡ row_at s i
  unfolding row_at
  row i = row_same (same-rows i)

  season : (j : ℕ) → j < seasons_of s → season_at t j ≡ season_at s j
  season = season-kept same-before-rows

  -- the vehicles of the rows before one
  vehicles : (n : ℕ) → vehicles_before t n ≡ vehicles_before s n
  unfolding vehicles_before
  vehicles zero = refl
  vehicles (suc n) = cc (vehicles n, row n)

  -- the same mileage rules
  mileage-kept : (i : ℕ) → MileageRight s (row_at s i) → MileageRight t (row_at t i)
  mileage-kept i (most, driven) =
      rw (row i) (
        most,
        λ km.
            let (there, low) = driven km in (
              there,
              λ j l.
                  let in-s : j < seasons_of s = omega (arith, seasons) in
                  rw (season j in-s) (low j in-s),
            ),
      )

  -- t is accepted where s is and what its version asks is met, of the head and of each row,
  still-accepted : Met (numbers_demands t) → ((i : ℕ) → i < rows_of s → VersionMet t i) → sheet_check s ≡ Pass → sheet_check t ≡ Pass
  still-accepted numbers version h =
      let (((long, ((e, v), p)), old-numbers), (whole, ((durations, (hours, grid)), (season-demands, row-demands)))) = (sheet-judged s).passes h in
      met-accepted t (
        (
          (
            omega (arith, next.length-is),
            ((next.letters 0 (omega arith) ∙ e, next.letters 1 (omega arith) ∙ v), next.letters 2 (omega arith) ∙ p),
          ),
          numbers,
        ),
        (
          omega (arith, whole, start-s, start-t, next.length-is, seasons, next.rows),
          (
            (
              (λ old. absurd (omega (arith, grid-version t next.grid-of-t))),
              (
                (λ old. absurd (omega (arith, grid-version t next.grid-of-t))),
                (λ _. rw (counts-kept same-before-rows) (grid (grid-version s next.grid-of-s))),
              ),
            ),
            (
              (λ j l.
                  let in-s : j < seasons_of s = omega (arith, seasons) in
                  rw (days-kept same-before-rows j (omega arith), season j in-s) (season-demands j in-s)),
              (λ i l.
                  let in-s : i < rows_of s = omega (arith, next.rows) in
                  row-met (record { bytes = same-rows i; seasons = seasons; season = season }) (version i in-s) (row-demands i in-s)),
            ),
          ),
        ),
      )

  -- and has the same values
  still_alike : sheet_check t ≡ Pass → sheet_check s ≡ Pass → Alike s t
  still_alike ht h = record {
    seasons-same = seasons;
    rows_same = next.rows;
    check-same = ht ∙ sym h;
    cells_same = cells-kept same-before-rows;
    season-same = season;
    season-list-same = season-list-kept same-before-rows;
    row_same = λ i _. row i;
  }

-- From version 2 to 3.
module _ {s t : List ℕ} (next : NextVersion s t) where
  few-s : has_many_rows s ≡ false
  few-s = rw next.old

  few-t : has_many_rows t ≡ false
  few-t = rw next.new

  third : Renumbered s t
  third = record {
    grid-of-s = rw next.old;
    grid-of-t = rw next.new;
    rows = rows_few t few-t ∙ next.after 1 ∙ sym (rows_few s few-s);
    length-is = next.length-is;
    letters = next.letters;
    after = next.after;
  }

  pub next-accepted : sheet_check s ≡ Pass → sheet_check t ≡ Pass
  next-accepted h =
      let ((mark, (version, (season-count, (row_count, zero-byte)))), rest) = (sheet-judged s).passes h in
      still-accepted third (
        (omega (arith, next.new), omega (arith, next.new)),
        (
          rw (seasons third) season-count,
          (
            (omega (arith, third.rows, row_count.0), omega (arith, third.rows, row_count.1, most-few t few-t, most-few s few-s)),
            λ _. next.after 2 ∙ zero-byte (omega (arith, next.old)),
          ),
        ),
      )
      (λ i l.
      let none : (row_at s i).mileage ≡ 0 = ((accepted s h).row i l).no-mileage (omega (arith, next.old)) in
      record {
        fleet = λ many. absurd (omega (arith, next.new));
        bytes = λ old. absurd (omega (arith, next.new));
        mileage = λ _. rw (row third i) (omega (arith, none), λ km. absurd (omega (arith, none)));
      })
      h

  pub next-alike : sheet_check s ≡ Pass → Alike s t
  next-alike h = still_alike third (next-accepted h) h

-- From version 3 to 4, where the vehicles of all rows are within the limit of version 4.
module _ {s t : List ℕ} (next : FourthVersion s t) (h : sheet_check s ≡ Pass) (fleet : vehicles_before s (rows_of s) ≤ fleet_limit) where
  -- byte 7 of s is 0, so that two bytes count the rows as one did
  fourth : Renumbered s t
  fourth =
      let ((mark, (version, (season-count, (row_count, zero-byte)))), rest) = (sheet-judged s).passes h in
      let zero-7 : u8_at s 7 ≡ 0 = zero-byte (omega (arith, next.old)) in
      let few : rows_of s ≡ u8_at s 6 = rows_few s (rw next.old) in
      let many : rows_of t ≡ u16_at t 6 = rows-many t (rw next.new) in
      record {
        grid-of-s = rw next.old;
        grid-of-t = rw next.new;
        rows = omega (arith, many, few, zero-7, next.after 1, next.after 2);
        length-is = next.length-is;
        letters = next.letters;
        after = next.after;
      }

  pub fourth-accepted : sheet_check t ≡ Pass
  fourth-accepted =
      let a = accepted s h in
      still-accepted fourth (
        (omega (arith, next.new), omega (arith, next.new)),
        (
          (omega (arith, seasons fourth, a.seasons-least), omega (arith, seasons fourth, a.seasons-most)),
          (
            (
              omega (arith, fourth.rows, a.rows-least),
              omega (arith, fourth.rows, a.rows-most, most-few s (rw next.old), most-many t (rw next.new)),
            ),
            λ few. absurd (omega (arith, next.new)),
          ),
        ),
      )
      (λ i l. record {
        fleet = λ _. omega (arith, vehicles fourth (i + 1), vehicles-more t i refl refl, vehicles-rise s (i + 1) (rows_of s) (omega arith));
        bytes = λ old. absurd (omega (arith, next.new));
        mileage = λ _. mileage-kept fourth i ((a.row i l).mileage (omega (arith, next.old)));
      })
      h

  pub fourth-alike : Alike s t
  fourth-alike = still_alike fourth fourth-accepted h
