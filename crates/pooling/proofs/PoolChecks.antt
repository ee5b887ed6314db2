-- The checks of a pooled sheet: where both sheets pass and agree, all that can refuse it is the number of its rows, 5, and the number of its
-- vehicles, 26.
-- Assumes nothing.
use mathlib.Core.Bool.{Bool, true, false, not, ◌&&◌, ◌||◌}
use mathlib.Core.List.{List}
use mathlib.Core.Path.{◌≡◌, refl, sym, ◌∙◌}
use Prim.Native.Nat.{ℕ, suc, ◌+◌, ◌<◌}
use native.Mathlib.Omega.{arith}
use borrow.Author.Tests.{le-ltb}
use lib.Dec.{ltb, eqb}
use Rattle.exact.specs.declared.Season.{Season}
use Rattle.refusals.specs.declared.Rule.{Rule}
use Rattle.refusals.specs.declared.Rule.TheVariants as rule
use Rattle.refusals.specs.Check.{Check, Pass, refuse, ◌then◌, each}
use Rattle.sheet.specs.Limits.{many_rows_limit, seasons_limit, vehicles_limit, fleet_limit, tank_limit, trips_limit, minutes_limit}
use Rattle.sheet.specs.Integers.{u8_at, u16_at}
use Rattle.sheet.specs.Versions.{version_of, has_mileage, has_many_rows}
use Rattle.sheet.specs.Bytes.{seasons_of, rows_of, row_place, row_at, equipment_at}
use Rattle.sheet.specs.Sheet.{outside, mark_check, numbers_check, head_check, length_check, parking_check, season_check}
use Rattle.sheet.specs.Sheet.{is_absent, code_wrong, percent_wrong, load_wrong, saturation_above, some_season}
use Rattle.sheet.specs.RunningSums.{vehicles_before}
use Rattle.sheet.specs.Sheet.{mileage_wrong, row_check, sheet_check}
use Rattle.sheet.specs.Demands.{Met, demands}
use Rattle.sheet.proofs.Versions.{most-many}
use Rattle.sheet.proofs.Checks.{met-passes, judges-each}
use Rattle.sheet.proofs.Conditions.{mark-judged, length-judged, parking-judged, season-judged, row-judged, sheet-judged}
use Rattle.refusals.proofs.Chain.{then-pass-right, each_append}
use Rattle.sheet.proofs.BeforeRows.{each-cong}
use Rattle.sheet.proofs.Local.{Same, byte_at, word_at, equipment-same}
use Rattle.sheet.proofs.NextVersion.{SheetKept, counts-kept, season-kept, days-kept, some-kept}
use Rattle.pooling.specs.Pool.{rows_together, pool}
use Rattle.pooling.specs.Late.{fleet_check, late_check}
use Rattle.pooling.proofs.PoolBytes.{Pair, start, length-is, version-pool, seasons-pool, letters-pool, many-pool, rows-pool, pool-long}
use Rattle.pooling.proofs.PoolBytes.{kept-first, kept_second, place-pool, first-same, second-same, row_first, row-second, vehicles-first}
use Rattle.pooling.proofs.PoolBytes.{vehicles-second}

-- Checks that pass, at another place and with another condition of one number.

-- where c passes, d is e
record Leaves (c d e : Check) : Type 0 where
  left : c ≡ Pass → d ≡ e

-- a number that does not apply does not apply elsewhere
skip : (b : Bool) (m : Rule) (p q : ℕ) {c d e : Check} → Leaves c d e → Leaves (refuse b m p then c) (refuse b m q then d) e
unfolding refuse ◌then◌
skip true m p q f = record { left = λ h. absurd (let z : ◌≡◌ {A = ℕ} 0 1 = cc in omega arith) }
skip false m p q f = f

last : (b : Bool) (m : Rule) (p q : ℕ) → Leaves (refuse b m p) (refuse b m q) Pass
unfolding refuse
last true m p q = record { left = λ h. absurd (let z : ◌≡◌ {A = ℕ} 0 1 = cc in omega arith) }
last false m p q = record { left = λ h. refl }

-- one with another condition is all that is left, where those after it pass
keep : (x y : Bool) (m : Rule) (p q : ℕ) {c d : Check} → Leaves c d Pass → Leaves (refuse x m p then c) (refuse y m q then d) (refuse y m q)
unfolding refuse ◌then◌
keep true y m p q f = record { left = λ h. absurd (let z : ◌≡◌ {A = ℕ} 0 1 = cc in omega arith) }
keep false true m p q f = record { left = λ h. refl }
keep false false m p q f = f

-- the checks of row i of s, with another answer to number 26 and another place
unfoldable row_with : List ℕ → ℕ → Bool → ℕ → Check
row_with s i exceeded place =
    let row = row_at s i in
    let p = row_place s i in
    refuse (is_absent (equipment_at s p)) rule.Class place then
    refuse (code_wrong (u8_at s (p + 2))) rule.CanisterCode place then
    refuse (percent_wrong row) rule.Percent place then
    refuse (ltb vehicles_limit row.vehicles) rule.Vehicles place then
    refuse exceeded rule.Fleet place then
    refuse (ltb tank_limit (u16_at s (p + 6))) rule.Tank place then
    refuse (ltb trips_limit row.trips || ltb minutes_limit row.minutes) rule.Trips place then
    refuse (load_wrong row.canister row.load row.saturation) rule.Load place then
    refuse (some_season (saturation_above 3 row.canister row.saturation) s (seasons_of s)) rule.Exponent place then
    refuse (not (has_mileage s) && not (eqb row.mileage 0)) rule.RowZeros place then
    refuse (has_mileage s && mileage_wrong s row) rule.Mileage place

-- where no number applies, none does but 26 with its other answer
only-fleet : (s : List ℕ) (i : ℕ) (x y : Bool) (p q : ℕ) → Leaves (row_with s i x p) (row_with s i y q) (refuse y rule.Fleet q)
unfolding row_with
only-fleet s i x y p q =
    skip _ rule.Class p q
    (skip _ rule.CanisterCode p q
    (skip _ rule.Percent p q
    (skip _ rule.Vehicles p q
    (keep x y rule.Fleet p q
    (skip _ rule.Tank p q
    (skip _ rule.Trips p q
    (skip _ rule.Load p q (skip _ rule.Exponent p q (skip _ rule.RowZeros p q (last _ rule.Mileage p q))))))))))

-- the vehicles up to row i are too many
abbrev exceeds : List ℕ → ℕ → Bool
exceeds s i = has_many_rows s && ltb fleet_limit (vehicles_before s i + (row_at s i).vehicles)

-- the checks of a row that t has of s, of the same version and with the same parking and seasons
row-with : {s t : List ℕ} (i j : ℕ) → SheetKept s t → version_of t ≡ version_of s → Same t s (row_place t j) (row_place s i) 24
    → row_at t j ≡ row_at s i
    → row_check t j ≡ row_with s i (exceeds t j) (row_place t j)
unfolding row_check row_with mileage_wrong
row-with {s} {t} i j kept version bytes row =
    let equipment = equipment-same bytes (omega arith) in
    let code = byte_at bytes 2 (row_place t j + 2) (row_place s i + 2) refl refl (omega arith) in
    let tank = word_at bytes 6 (row_place t j + 6) (row_place s i + 6) refl refl (omega arith) in
    let wrong : ℕ → Season → Bool = λ limit. saturation_above limit (row_at s i).canister (row_at s i).saturation in
    let some : (limit : ℕ) → some_season (wrong limit) t (seasons_of s) ≡ some_season (wrong limit) s (seasons_of s) =
    λ limit. some-kept kept (wrong limit) (seasons_of s) (omega arith) in
    rw (row, equipment, code, tank, version, kept.seasons, some 3, some 0)

own_row : (s : List ℕ) (i : ℕ) → row_check s i ≡ row_with s i (exceeds s i) (row_place s i)
unfolding row_check row_with
own_row s i = refl

-- The parts of a pooled sheet.
module _ {a b : List ℕ} (h : Pair a b) where
  -- its demands that the first sheet meets,
  met : Met (demands a)
  met = (sheet-judged a).passes h.first.passed

  -- on the mark,
  mark-passes : mark_check (pool a b) ≡ Pass
  mark-passes =
      let ((e, v), p) = met.0.0.1 in
      met-passes _ (mark-judged (pool a b)) (
        omega (arith, pool-long a h.second, met.0.0.0),
        ((letters-pool h 0 (omega arith) ∙ e, letters-pool h 1 (omega arith) ∙ v), letters-pool h 2 (omega arith) ∙ p),
      )

  -- and all of the head but the row count
  head-left : head_check (pool a b) ≡ refuse (ltb many_rows_limit (rows_together a b)) rule.Rows 6
  unfolding head_check numbers_check refuse ◌then◌ outside
  head-left =
      let (least, most) = met.0.1.1.0 in
      let few : ltb (rows_together a b) 1 ≡ false = le-ltb (rows_together a b) 1 (omega (arith, met.0.1.1.1.0.0)) in
      rw (
        mark-passes,
        version-pool h,
        seasons-pool h,
        le-ltb (seasons_of a) 1 least,
        le-ltb seasons_limit (seasons_of a) most,
        most-many (pool a b) (many-pool h),
        rows-pool h,
        few,
      )
      (sym (then-pass-right _))

  length-passes : length_check (pool a b) ≡ Pass
  length-passes = met-passes _ (length-judged (pool a b))
      (omega (
        arith,
        pool-long a h.second,
        place-pool h 0,
        seasons-pool h,
        rows-pool h,
        length-is h.first,
        start h.first,
      ))

  parking-passes : parking_check (pool a b) ≡ Pass
  parking-passes =
      met-passes _ (parking-judged (pool a b)) (
        (λ old. absurd (omega (arith, version-pool h))),
        (
          (λ old. absurd (omega (arith, version-pool h))),
          (λ _. rw (counts-kept (kept-first h)) (met.1.1.0.1.1 (omega (arith, h.first.version)))),
        ),
      )

  seasons-pass : each (season_check (pool a b)) (seasons_of (pool a b)) ≡ Pass
  seasons-pass =
      met-passes _ (judges-each (seasons_of (pool a b)) (season-judged (pool a b))) (λ j l.
      let in-a : j < seasons_of a = omega (arith, seasons-pool h) in
      rw (days-kept (kept-first h) j (omega arith), season-kept (kept-first h) j in-a) (met.1.1.1.0 j in-a))

  -- of its version's numbers 26 is the one that looks at other rows
  same_version : version_of (pool a b) ≡ version_of a
  same_version = version-pool h ∙ sym h.first.version

  -- each row of the first passes as it did,
  row-passes : (i : ℕ) → i < rows_of a → row_check (pool a b) i ≡ Pass
  unfolding refuse
  row-passes i l =
      let demands-met = met.1.1.1.1 i l in
      let few : ltb fleet_limit (vehicles_before a i + (row_at a i).vehicles) ≡ false =
      le-ltb fleet_limit _ (demands-met.1.1.1.1.0 (omega (arith, h.first.version))) in
      row-with i i (kept-first h) same_version (first-same h i l) (row_first h i l) ∙
      (only-fleet a i (exceeds a i) (exceeds (pool a b) i) (row_place a i) (row_place (pool a b) i)).left
      (sym (own_row a i) ∙ met-passes _ (row-judged a i) demands-met) ∙
      rw (many-pool h, vehicles-first h i (omega arith), row_first h i l, few)

  -- and of those of the second nothing but 26 is left
  row-left : (i : ℕ) → i < rows_of b → row_check (pool a b) (rows_of a + i) ≡ fleet_check a b i
  unfolding vehicles_before fleet_check
  row-left i l =
      let j : ℕ = rows_of a + i in
      let demands-met = ((sheet-judged b).passes h.second.passed).1.1.1.1 i l in
      let vehicles : vehicles_before (pool a b) j + (row_at (pool a b) j).vehicles ≡ vehicles_before a (rows_of a) + vehicles_before b (suc i)
      = rw (row-second h i l) (omega (arith, vehicles-second h i (omega arith))) in
      row-with i j (kept_second h) (version-pool h ∙ sym h.second.version) (second-same h i l) (row-second h i l) ∙
      (only-fleet b i (exceeds b i) (exceeds (pool a b) j) (row_place b i) (row_place (pool a b) j)).left
      (sym (own_row b i) ∙ met-passes _ (row-judged b i) demands-met) ∙
      rw (many-pool h, vehicles, place-pool h j)

  -- so of all rows the vehicles of the second's are left
  rows_left : each (row_check (pool a b)) (rows_of (pool a b)) ≡ each (fleet_check a b) (rows_of b)
  unfolding ◌then◌
  rows_left =
      let passes : each (row_check (pool a b)) (rows_of a) ≡ Pass =
      met-passes _ (judges-each (rows_of a) (row-judged (pool a b)))
      (λ i l. (row-judged (pool a b) i).passes (row-passes i l)) in
      rw (rows-pool h, each_append (row_check (pool a b)) (rows_of a) (rows_of b), passes)
      (each-cong (λ (i : ℕ). row_check (pool a b) (rows_of a + i)) (fleet_check a b) (rows_of b) row-left)

  -- The pooled sheet's checks: 5 at place 6, or 26 at the row of the second sheet where the vehicles are too many.
  pub pooled-check : sheet_check (pool a b) ≡ late_check a b
  unfolding sheet_check late_check ◌then◌
  pooled-check = rw (head-left, length-passes, parking-passes, seasons-pass, rows_left)
