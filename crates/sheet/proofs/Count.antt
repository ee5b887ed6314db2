-- A sheet with another count of vehicles in one row: seasons, cells and the other rows are the same, and it is accepted where numbers 16 and
-- 26 allow the count.
-- Assumes nothing.
use mathlib.Core.List.{List}
use mathlib.Core.Path.{◌≡◌, refl, ap, ◌∙◌}
use Prim.Native.Nat.{ℕ, suc, zero, ◌+◌, ◌*◌, ◌-◌, ◌/◌, ◌%◌, ◌^◌, ◌≤◌, ◌<◌}
use native.Mathlib.Decide.{dec_le, ℕ_discrete}
use native.Mathlib.Omega.{arith}
use lib.ListN.{length, get_or}
use lib.Seq.{length-sets}
use Rattle.std.proofs.lemmas.Nat.{from_le_bytes-to_le_bytes_4}
use Rattle.numbers.proofs.Stores.{sets-before, sets-in, sets-beyond}
use Rattle.refusals.specs.Check.{Pass}
use Rattle.sheet.specs.Limits.{vehicles_limit, fleet_limit}
use Rattle.sheet.specs.Integers.{u8_at, u32_at}
use Rattle.sheet.specs.Versions.{version_of}
use Rattle.sheet.specs.Bytes.{seasons_of, rows_of, row_place, row_from, row_at}
use Rattle.sheet.specs.Counts.{four_bytes, with_count}
use Rattle.sheet.specs.Sheet.{row_check, sheet_check}
use Rattle.sheet.specs.RunningSums.{vehicles_before}
use Rattle.sheet.specs.Demands.{Met, MileageRight, row_demands}
use Rattle.sheet.proofs.Checks.{met-passes}
use Rattle.sheet.proofs.Conditions.{row-judged}
use Rattle.sheet.proofs.Accepted.{Bytes, row-accepted}
use Rattle.sheet.proofs.Fleet.{vehicles-rise}
use Rattle.sheet.proofs.Local.{Same, byte_at, word_at, long-at, equipment-same}
use Rattle.sheet.proofs.BeforeRows.{BeforeRows, version, start, seasons, season, rows-accepted}
use Rattle.sheet.proofs.RowDemands.{with_vehicles, RowBut, VersionMet, row-met-but}

-- four bytes make up a number of 32 bits
four_are : (v : ℕ) → v < 2 ^ 32 → v % 256 + 256 * (v / 256 % 256) + 65536 * (v / 65536 % 256 + 256 * (v / 16777216 % 256)) ≡ v
four_are v h = omega (arith, from_le_bytes-to_le_bytes_4 v h)

-- and each is a byte
four-byte : (v m : ℕ) → get_or (four_bytes v) m 0 < 256
four-byte v zero = omega arith
four-byte v (suc zero) = omega arith
four-byte v (suc (suc zero)) = omega arith
four-byte v (suc (suc (suc zero))) = omega arith
four-byte v (suc (suc (suc (suc m)))) = omega arith

module _ (s : List ℕ) (i v : ℕ) (bits : v < 2 ^ 32) (there : row_place s i + 24 ≤ length s) where
  abbrev s' : List ℕ
  s' = with_count s i v

  abbrev place : ℕ
  place = row_place s i + 8

  length-same : length s' ≡ length s
  unfolding with_count
  length-same = length-sets s place (four_bytes v)

  -- "the row's four bytes of vehicles, no other"
  pub before : (k : ℕ) → k < row_place s i + 8 → u8_at (with_count s i v) k ≡ u8_at s k
  unfolding with_count
  before k h = sets-before s place (four_bytes v) k h

  pub beyond : (k : ℕ) → row_place s i + 12 ≤ k → u8_at (with_count s i v) k ≡ u8_at s k
  unfolding with_count
  beyond k h = sets-beyond s place (four_bytes v) k (omega arith)

  -- byte m of the count
  byte_of : (m q : ℕ) → m < 4 → q ≡ place + m → u8_at s' q ≡ get_or (four_bytes v) m 0
  unfolding with_count
  byte_of m q h e = rw e (sets-in s place (four_bytes v) m h (omega arith))

  -- the four bytes are the count
  stored : u32_at s' place ≡ v
  stored =
      cc (
        byte_of 0 place (omega arith) (omega arith),
        byte_of 1 (place + 1) (omega arith) refl,
        byte_of 2 (place + 2) (omega arith) refl,
        byte_of 3 (place + 2 + 1) (omega arith) (omega arith),
        four_are v bits,
      )

  -- bytes stay bytes
  pub bytes-kept : Bytes s → Bytes (with_count s i v)
  bytes-kept b = record {
    byte = λ k.
        elim (dec_le (suc k) place) [
          | yes h ↦ rw (before k h) (b.byte k)
          | no h ↦
              elim (dec_le (place + 4) k) [
                | yes g ↦ rw (beyond k (omega arith)) (b.byte k)
                | no g ↦ rw (byte_of (k - place) k (omega arith) (omega arith)) (four-byte v (k - place))
              ]
        ];
  }

  -- Before the rows nothing is changed.
  pub before-rows : BeforeRows s (with_count s i v)
  before-rows = record { same_length = length-same; early = λ k h. before k (omega arith) }

  abbrev same : BeforeRows s (with_count s i v)
  same = before-rows

  -- Of row j the first eight bytes and the last twelve are the same,
  front : (j : ℕ) → Same s' s (row_place s j) (row_place s j) 8
  front j = record {
    byte = λ k l. elim (dec_le j i)
        [ yes a ↦ before (row_place s j + k) (omega arith) | no a ↦ beyond (row_place s j + k) (omega arith) ];
  }

  back : (j : ℕ) → Same s' s (row_place s j + 12) (row_place s j + 12) 12
  back j = record {
    byte = λ k l. elim (dec_le i j)
        [ yes a ↦ beyond (row_place s j + 12 + k) (omega arith) | no a ↦ before (row_place s j + 12 + k) (omega arith) ];
  }

  -- so it is the same record but for its count,
  row_from_lem : (j : ℕ) → row_from s' (row_place s j) ≡ with_vehicles (row_from s (row_place s j)) (u32_at s' (row_place s j + 8))
  unfolding row_from
  row_from_lem j =
      let p : ℕ = row_place s j in
      rw (
        equipment-same (front j) (omega arith),
        byte_at (front j) 0 p p (omega arith) (omega arith) (omega arith),
        byte_at (front j) 2 (p + 2) (p + 2) refl refl (omega arith),
        byte_at (front j) 3 (p + 3) (p + 3) refl refl (omega arith),
        byte_at (front j) 4 (p + 4) (p + 4) refl refl (omega arith),
        byte_at (front j) 5 (p + 5) (p + 5) refl refl (omega arith),
        word_at (front j) 6 (p + 6) (p + 6) refl refl (omega arith),
        word_at (back j) 0 (p + 12) (p + 12) (omega arith) (omega arith) (omega arith),
        word_at (back j) 2 (p + 14) (p + 14) (omega arith) (omega arith) (omega arith),
        word_at (back j) 4 (p + 16) (p + 16) (omega arith) (omega arith) (omega arith),
        word_at (back j) 6 (p + 18) (p + 18) (omega arith) (omega arith) (omega arith),
        long-at (back j) 8 (p + 20) (p + 20) (omega arith) (omega arith) (omega arith),
      )

  -- which in row i is the new one,
  pub row-changed : row_at (with_count s i v) i ≡ with_vehicles (row_at s i) v
  unfolding row_at
  row-changed = rw (start same, seasons same) (row_from_lem i ∙ ap (with_vehicles (row_from s (row_place s i))) stored)

  -- and in every other row the old one
  pub row_kept : (j : ℕ) → ¬ (j ≡ i) → row_at (with_count s i v) j ≡ row_at s j
  unfolding row_at row_from
  row_kept j n =
      let other : Same s' s (row_place s j + 8) (row_place s j + 8) 4 = record {
        byte = λ k l.
            elim (dec_le (suc j) i) [
              | yes a ↦ before (row_place s j + 8 + k) (omega arith)
              | no a ↦ elim (dec_le (suc i) j) [ yes b ↦ beyond (row_place s j + 8 + k) (omega arith) | no b ↦ absurd (n (omega arith)) ]
            ];
      } in
      rw (start same, seasons same)
      (row_from_lem j ∙ rw (long-at other 0 (row_place s j + 8) (row_place s j + 8) (omega arith) (omega arith)
      (omega arith)) refl)

  -- The vehicles up to row i are the same; from there on the new count stands for the old one.
  vehicles-early : (n : ℕ) → n ≤ i → vehicles_before s' n ≡ vehicles_before s n
  unfolding vehicles_before
  vehicles-early zero h = refl
  vehicles-early (suc n) h = cc (vehicles-early n (omega arith), row_kept n (λ e. omega arith))

  vehicles-changed : (n : ℕ) → i < n → vehicles_before (with_count s i v) n + (row_at s i).vehicles ≡ vehicles_before s n + v
  unfolding vehicles_before
  vehicles-changed zero h = absurd (omega arith)
  vehicles-changed (suc n) h =
      elim (ℕ_discrete n i) [
        | yes e ↦ rw (e, row-changed) (omega (arith, vehicles-early i (omega arith)))
        | no n' ↦ rw (row_kept n n') (omega (arith, vehicles-changed n (omega arith)))
      ]

  -- All demands on row j are met still where the new count meets those on vehicles.
  module _ (inside : i < rows_of s) (most : v ≤ vehicles_limit)
      (fleet : 4 ≤ version_of s → vehicles_before s (rows_of s) + v ≤ fleet_limit + (row_at s i).vehicles) where
    row-but : (j : ℕ) → row_at s' j ≡ with_vehicles (row_at s j) (row_at s' j).vehicles
    row-but j = elim (ℕ_discrete j i) [ yes e ↦ rw (e, row-changed) refl | no n ↦ rw (row_kept j n) refl ]

    kept : (j : ℕ) → RowBut s s' j
    kept j =
        let p : ℕ = row_place s j in
        record {
          equipment = rw (start same, seasons same) (equipment-same (front j) (omega arith));
          code = rw (start same, seasons same) (byte_at (front j) 2 (p + 2) (p + 2) refl refl (omega arith));
          tank = rw (start same, seasons same) (word_at (front j) 6 (p + 6) (p + 6) refl refl (omega arith));
          row = row-but j;
          seasons = seasons same;
          season = season same;
        }

    -- 16,
    vehicles : (j : ℕ) → (row_at s j).vehicles ≤ vehicles_limit → (row_at s' j).vehicles ≤ vehicles_limit
    vehicles j h = elim (ℕ_discrete j i) [ yes e ↦ rw (e, row-changed) most | no n ↦ rw (row_kept j n) h ]

    -- 26,
    together : (j : ℕ) → j < rows_of s → 4 ≤ version_of s → vehicles_before s' (suc j) ≤ fleet_limit
    together j l many =
        omega (arith, vehicles-rise s' (suc j) (rows_of s) l, vehicles-changed (rows_of s) inside, fleet many)

    -- and what the version asks of the mileage
    versions : (j : ℕ) → j < rows_of s → Met (row_demands s j) → VersionMet s' j
    unfolding vehicles_before
    versions j l met =
        let a = row-accepted s j met in
        record {
          fleet = λ many. together j l (omega (arith, version same));
          bytes = λ old. rw (row-but j) (a.no-mileage (omega (arith, version same)));
          mileage = λ new.
              let right : MileageRight s (row_at s j) = a.mileage (omega (arith, version same)) in
              rw (row-but j) (
                right.0,
                λ km. (
                  (right.1 km).0,
                  λ k l. let in-s : k < seasons_of s = omega (arith, seasons same) in
                      rw (season same k in-s) ((right.1 km).1 k in-s),
                ),
              );
        }

    -- so the sheet is accepted still
    pub still-accepted : sheet_check s ≡ Pass → sheet_check (with_count s i v) ≡ Pass
    still-accepted =
        rows-accepted same
        (λ j l h.
        let met : Met (row_demands s j) = (row-judged s j).passes h in
        met-passes (row_check s' j) (row-judged s' j) (row-met-but (kept j) (vehicles j (row-accepted s j met).vehicles-most) (versions j l met) met))
