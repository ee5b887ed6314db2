-- The counts of a sheet as a list, and what 29 leaves of them: a call that is not wrong keeps them within the limits of numbers 16 and 26.
-- Assumes nothing.
use mathlib.Core.Bool.{Bool, true, false, ◌&&◌}
use mathlib.Core.List.{List, [], ◌∷◌, ◌++◌}
use mathlib.Core.Path.{◌≡◌, refl, sym, ap, ◌∙◌}
use Prim.Native.Nat.{ℕ, suc, zero, ◌+◌, ◌-◌, ◌^◌, ◌≤◌, ◌<◌}
use native.Mathlib.Decide.{ℕ_discrete}
use native.Mathlib.Omega.{arith}
use borrow.Author.Tests.{ltb-false, leb-false, le-leb}
use lib.Dec.{leb, ltb}
use lib.ListN.{length, set, length-set}
use lib.Seq.{ext_get_or, get_or-set_same, get_or-set_other}
use Rattle.std.proofs.lemmas.Bool.{or_parts}
use Rattle.numbers.specs.Lists.{tab, at}
use Rattle.numbers.proofs.Lists.{tab-length, get_d-tab}
use Rattle.exact.specs.Factors.{total}
use Rattle.sheet.specs.Limits.{vehicles_limit, fleet_limit}
use Rattle.sheet.specs.Versions.{version_of, has_many_rows}
use Rattle.sheet.specs.Bytes.{rows_of, row_place, row_at}
use Rattle.sheet.specs.Counts.{counts_of, with_count}
use Rattle.sheet.specs.RunningSums.{vehicles_before}
use Rattle.sheet.proofs.Accepted.{Accepted}
use Rattle.sheet.proofs.BeforeRows.{rows}
use Rattle.sheet.proofs.Count.{before-rows, row-changed, row_kept}
use Rattle.ledger.specs.declared.Call.{Call}
use Rattle.ledger.specs.declared.Call.TheVariants.{Arrival, Departure}
use Rattle.ledger.specs.Machine.{row_of, moved, past, wrong, new_count}

-- one for each row,
pub counts-length : (s : List ℕ) → length (counts_of s) ≡ rows_of s
unfolding counts_of
counts-length s = tab-length _ (rows_of s)

-- its vehicles,
pub count_at : (s : List ℕ) (i : ℕ) → i < rows_of s → at (counts_of s) i ≡ (row_at s i).vehicles
unfolding counts_of
count_at s i h = get_d-tab _ (rows_of s) i h

-- and all together those of all rows
total-more : (xs : List ℕ) (x : ℕ) → total (xs ++ (x ∷ [])) ≡ total xs + x
unfolding total
total-more [] x = omega arith
total-more (y ∷ xs) x = omega (arith, total-more xs x)

total_first : (s : List ℕ) (n : ℕ) → total (tab (λ (i : ℕ). (row_at s i).vehicles) n) ≡ vehicles_before s n
unfolding tab total vehicles_before
total_first s zero = refl
total_first s (suc n) =
    total-more (tab (λ (i : ℕ). (row_at s i).vehicles) n) (row_at s n).vehicles ∙
    ap (λ (k : ℕ). k + (row_at s n).vehicles) (total_first s n)

pub total-counts : (s : List ℕ) → total (counts_of s) ≡ vehicles_before s (rows_of s)
unfolding counts_of
total-counts s = total_first s (rows_of s)

-- with another count in one row one entry is another
pub counts-changed : (s : List ℕ) (i v : ℕ) → v < 2 ^ 32 → row_place s i + 24 ≤ length s → i < rows_of s
    → counts_of (with_count s i v) ≡ set (counts_of s) i v
counts-changed s i v bits room there =
    let same : rows_of (with_count s i v) ≡ rows_of s = rows (before-rows s i v bits room) in
    let long : length (counts_of (with_count s i v)) ≡ length (set (counts_of s) i v) =
    counts-length (with_count s i v) ∙ same ∙ sym (length-set (counts_of s) i v ∙ counts-length s) in
    ext_get_or 0 (counts_of (with_count s i v)) (set (counts_of s) i v) long
    (λ j l.
    let inside : j < rows_of (with_count s i v) = rw (counts-length (with_count s i v)) at l in
    let inside' : j < rows_of s = omega arith in
    count_at (with_count s i v) j inside ∙
    elim (ℕ_discrete j i) [
      | yes e ↦ rw (e, row-changed s i v bits room) (sym (get_or-set_same (counts_of s) i v 0 (omega (arith, counts-length s))))
      | no n ↦ rw (row_kept s i v bits room j n) (sym (get_or-set_other (counts_of s) i j v 0 n ∙ count_at s j inside'))
    ])

-- What a call leaves that is not past the limits: fleet of all rows, v in its row.
module _ (many : Bool) (fleet v : ℕ) where
  moved-most : (call : Call) → v ≤ vehicles_limit → past many fleet v call ≡ false → moved v call ≤ vehicles_limit
  unfolding past moved
  moved-most (Arrival row k) h g = ltb-false vehicles_limit (v + k) (or_parts (ltb vehicles_limit (v + k)) _ g).0
  moved-most (Departure row k) h g = omega arith

  moved-together : (call : Call) → fleet ≤ fleet_limit → many ≡ true → past many fleet v call ≡ false → fleet + moved v call ≤ fleet_limit + v
  unfolding past moved
  moved-together (Arrival row k) h e g =
      let over : (many && ltb fleet_limit (fleet + k)) ≡ false = (or_parts (ltb vehicles_limit (v + k)) _ g).1 in
      omega (arith, ltb-false fleet_limit (fleet + k) (rw e at over))
  moved-together (Departure row k) h e g = omega arith

-- the vehicles of all rows of an accepted sheet that may have many
fleet-most : {s : List ℕ} → Accepted s → 4 ≤ version_of s → vehicles_before s (rows_of s) ≤ fleet_limit
fleet-most {s} a many =
    let last : suc (rows_of s - 1) ≡ rows_of s = omega (arith, a.rows-least) in
    rw last at ((a.row (rows_of s - 1) (omega (arith, a.rows-least))).fleet-most many)

-- a call that is not wrong
pub record Allowed (s : List ℕ) (call : Call) : Type 0 where
  pub there : row_of call < rows_of s
  pub within : past (has_many_rows s) (total (counts_of s)) (at (counts_of s) (row_of call)) call ≡ false
  pub most : new_count (counts_of s) call ≤ vehicles_limit
  pub together : 4 ≤ version_of s → vehicles_before s (rows_of s) + new_count (counts_of s) call ≤ fleet_limit + (row_at s (row_of call)).vehicles

pub allowed : (s : List ℕ) (call : Call) → Accepted s → wrong (has_many_rows s) (counts_of s) call ≡ false → Allowed s call
unfolding wrong
allowed s call a h =
    let (inside, within) = or_parts (leb (length (counts_of s)) (row_of call)) _ h in
    let there : row_of call < rows_of s = omega (arith, leb-false (length (counts_of s)) (row_of call) inside, counts-length s) in
    let count : at (counts_of s) (row_of call) ≡ (row_at s (row_of call)).vehicles = count_at s (row_of call) there in
    record {
      there = there;
      within = within;
      most = moved-most (has_many_rows s) (total (counts_of s)) (at (counts_of s) (row_of call)) call
          (rw count (a.row (row_of call) there).vehicles-most) within;
      together = λ many.
          omega (
            arith,
            count,
            total-counts s,
            moved-together (has_many_rows s) (total (counts_of s)) (at (counts_of s) (row_of call)) call
                (rw (total-counts s) (fleet-most a many)) (le-leb 4 (version_of s) many) within,
          );
    }
