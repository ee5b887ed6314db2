-- Two sheets that have the same bytes before their rows have the same version, counts, cells and seasons, and pass or are refused alike up to
-- the rows.
-- Assumes nothing.
use mathlib.Core.Bool.{Bool, true, false}
use mathlib.Core.List.{List}
use mathlib.Core.Path.{◌≡◌, refl, ◌∙◌}
use Prim.Native.Nat.{ℕ, suc, zero, ◌+◌, ◌≤◌, ◌<◌}
use native.Mathlib.Omega.{arith}
use lib.ListN.{length}
use Rattle.exact.specs.declared.Season.{Season}
use Rattle.refusals.specs.Check.{Check, Pass, ◌then◌, each}
use Rattle.sheet.specs.Integers.{u8_at}
use Rattle.sheet.specs.Versions.{version_of, has_grid, rows_most, seasons_start}
use Rattle.sheet.specs.Bytes.{seasons_of, rows_of, duration_counts, hour_counts, grid_counts, cells_of, season_place}
use Rattle.sheet.specs.Bytes.{row_place, season_at, seasons_from, season_list}
use Rattle.sheet.specs.Sheet.{letters_missing, mark_check, numbers_check, head_check, length_check, parking_check}
use Rattle.sheet.specs.Sheet.{season_check, some_season, row_check, sheet_check}
use Rattle.sheet.specs.RunningSums.{days_before}
use Rattle.sheet.proofs.Versions.{start-grid, start_between, start-same}
use Rattle.sheet.proofs.Checks.{then-pass, each-pass}
use Rattle.sheet.proofs.Local.{Same, season-same, counts_same}

-- of the same length, with the same bytes before the rows
pub record BeforeRows (s s' : List ℕ) : Type 0 where
  pub same_length : length s' ≡ length s
  pub early : (k : ℕ) → k < row_place s 0 → u8_at s' k ≡ u8_at s k

-- the same checks, one by one, are the same together
pub each-cong : (f g : ℕ → Check) (n : ℕ) → ((j : ℕ) → j < n → f j ≡ g j) → each f n ≡ each g n
unfolding each
each-cong f g zero h = refl
each-cong f g (suc n) h = cc (each-cong f g n (λ j l. h j (omega arith)), h n (omega arith))

-- checks that pass one by one pass together
each-passes : (f : ℕ → Check) (n : ℕ) → ((j : ℕ) → j < n → f j ≡ Pass) → each f n ≡ Pass
unfolding each ◌then◌
each-passes f zero h = refl
each-passes f (suc n) h = rw (each-passes f n (λ j l. h j (omega arith)), h n (omega arith)) refl

then-passes : {c d : Check} → c ≡ Pass → d ≡ Pass → (c then d) ≡ Pass
unfolding ◌then◌
then-passes h g = rw (h, g) refl

module _ {s s' : List ℕ} (b : BeforeRows s s') where
  part : (p n : ℕ) → p + n ≤ row_place s 0 → Same s' s p p n
  part p n h = record { byte = λ k l. b.early (p + k) (omega arith) }

  -- The head,
  head_byte : (k : ℕ) → k < 104 → u8_at s' k ≡ u8_at s k
  head_byte k h = b.early k (omega (arith, start_between s))

  -- the version, and with it where the seasons start,
  pub version : version_of s' ≡ version_of s
  version = cc (head_byte 3 (omega arith), head_byte 4 (omega arith))

  pub start : seasons_start s' ≡ seasons_start s
  start = start-same s s' version

  -- the counts of seasons and rows,
  pub seasons : seasons_of s' ≡ seasons_of s
  seasons = head_byte 5 (omega arith)

  pub rows : rows_of s' ≡ rows_of s
  unfolding rows_of
  rows = cc (version, head_byte 6 (omega arith), head_byte 7 (omega arith))

  rows-most : rows_most s' ≡ rows_most s
  unfolding rows_most
  rows-most = cc (version)

  -- each season,
  pub season : (j : ℕ) → j < seasons_of s → season_at s' j ≡ season_at s j
  unfolding season_at
  season j h = rw start (season-same (part (season_place s j) 8 (omega arith)) (omega arith))

  -- all of them,
  listed : (j n : ℕ) → j + n ≤ seasons_of s → seasons_from s' j n ≡ seasons_from s j n
  unfolding seasons_from
  listed j zero h = refl
  listed j (suc n) h = cc (season j (omega arith), listed (suc j) n (omega arith))

  pub season-list : season_list s' ≡ season_list s
  unfolding season_list
  season-list = cc (seasons, listed 0 (seasons_of s) (omega arith))

  -- the days before a season,
  days : (n : ℕ) → n ≤ seasons_of s → days_before s' n ≡ days_before s n
  unfolding days_before
  days zero h = refl
  days (suc n) h = cc (days n (omega arith), season n h)

  -- and what holds in some season are the same;
  pub some : (wrong : Season → Bool) (n : ℕ) → n ≤ seasons_of s → some_season wrong s' n ≡ some_season wrong s n
  unfolding some_season
  some wrong zero h = refl
  some wrong (suc n) h = cc (some wrong n (omega arith), season n h)

  -- the head passes or is refused alike,
  pub head : head_check s' ≡ head_check s
  unfolding head_check mark_check numbers_check letters_missing
  head = cc (
    b.same_length,
    head_byte 0 (omega arith),
    head_byte 1 (omega arith),
    head_byte 2 (omega arith),
    version,
    seasons,
    rows,
    rows-most,
    head_byte 7 (omega arith),
  )

  -- the parking counts are the same,
  durations : duration_counts s' ≡ duration_counts s
  unfolding duration_counts
  durations = counts_same 8 8 24 (part 8 48 (omega (arith, start_between s)))

  hours : hour_counts s' ≡ hour_counts s
  unfolding hour_counts
  hours = counts_same 56 56 24 (part 56 48 (omega (arith, start_between s)))

  grid : has_grid s ≡ true → grid_counts s' ≡ grid_counts s
  unfolding grid_counts
  grid h = counts_same 8 8 576 (part 8 1152 (omega (arith, start-grid s h)))

  -- so they pass or are refused alike, whichever count,
  pub parking : parking_check s' ≡ parking_check s
  unfolding parking_check
  parking = go (has_grid s) refl
    where
      go : (g : Bool) → has_grid s ≡ g → parking_check s' ≡ parking_check s
      go true h = rw (version, h) (cc (grid h))
      go false h = rw (version, h) (cc (durations, hours))

  -- and the cells are the same,
  pub cells : cells_of s' ≡ cells_of s
  unfolding cells_of
  cells = go (has_grid s) refl
    where
      go : (g : Bool) → has_grid s ≡ g → cells_of s' ≡ cells_of s
      go true h = rw (cells_of, version, h) (grid h)
      go false h = rw (cells_of, version, h) (cc (durations, hours))

  -- and each season passes or is refused alike.
  season-check : (j : ℕ) → j < seasons_of s → season_check s' j ≡ season_check s j
  unfolding season_check
  season-check j h = cc (start, season j h, days j (omega arith))

  pub season-checks : each (season_check s') (seasons_of s) ≡ each (season_check s) (seasons_of s)
  season-checks = each-cong (season_check s') (season_check s) (seasons_of s) season-check

  -- So where s is accepted, s' is, if each of its rows passes.
  pub rows-accepted : ((j : ℕ) → j < rows_of s → row_check s j ≡ Pass → row_check s' j ≡ Pass) → sheet_check s ≡ Pass → sheet_check s' ≡ Pass
  unfolding sheet_check length_check
  rows-accepted row h =
      let (h1, h2) = then-pass _ _ h in
      let (l1, l2) = then-pass _ _ h2 in
      let (p1, p2) = then-pass _ _ l2 in
      let (s1, r1) = then-pass _ _ p2 in
      then-passes (head ∙ h1)
      (then-passes (rw (b.same_length, start, seasons, rows) l1)
      (then-passes (parking ∙ p1)
      (then-passes (rw seasons (season-checks ∙ s1))
      (rw rows (each-passes _ _ (λ j l. row j l (each-pass _ _ r1 j l)))))))
