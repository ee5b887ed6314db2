-- The seasons and rows of a sheet that passed their checks are in range.
-- Assumes nothing.
use Rattle.std.proofs.Common.{Option, Some, None}
use mathlib.Core.List.{List}
use mathlib.Core.Path.{◌≡◌, ◌∙◌, refl}
use Prim.Native.Nat.{ℕ, ◌+◌, ◌≤◌, ◌<◌}
use native.Mathlib.Decide.{dec_le}
use native.Mathlib.Omega.{arith}
use borrow.Author.Tests.{ltb-false}
use Rattle.numbers.specs.Fraction.{◌≤ᶠ◌, whole, ◌/10^◌}
use Rattle.exact.specs.declared.Canister.{Canister}
use Rattle.exact.specs.declared.Canister.TheVariants.{Small, Medium, Large}
use Rattle.exact.specs.declared.Season.{Season}
use Rattle.exact.specs.Day.{signed_tenths}
use Rattle.exact.specs.Canister.{size}
use Rattle.sheet.specs.Versions.{version_of}
use Rattle.sheet.specs.Demands.{exponent_at, MileageRight}
use Rattle.refusals.specs.Check.{Pass, each}
use Rattle.sheet.specs.Bytes.{seasons_of, rows_of, season_place, season_from, season_at, row_at}
use Rattle.sheet.specs.Sheet.{season_check}
use Rattle.sheet.specs.Range.{warmth, SeasonInRange, halves, RowInRange}
use Rattle.sheet.proofs.Checks.{tests-met, each-pass}
use Rattle.sheet.proofs.Conditions.{season-judged, saturation-tests}
use Rattle.sheet.proofs.Accepted.{Bytes, AcceptedRow, Accepted, u16-bits}
use Rattle.sheet.proofs.Temperature.{season-in-range}
use Rattle.sheet.proofs.Saturation.{most, reached, saturation-is}

-- a season of 16-bit temperatures that passed its own checks
passed-in-range : (s : List ℕ) (i : ℕ) {r : Season} → season_check s i ≡ Pass → r ≡ season_at s i → r.lowest < 65536
    → r.highest < 65536 → SeasonInRange r
passed-in-range s i pass e l h =
    let (days, (((cold, order), warm), (least, most))) = (rw (← e) at (season-judged s i)).passes pass in
    season-in-range l h cold order warm most

-- each season of a sheet whose seasons have passed
pub seasons-in-range : (s : List ℕ) → Bytes s → each (season_check s) (seasons_of s) ≡ Pass → (j : ℕ) → j < seasons_of s
    → SeasonInRange (season_at s j)
unfolding season_at season_from
seasons-in-range s b pass j l =
    let p = season_place s j in
    passed-in-range s j (each-pass (season_check s) _ pass j l) refl (u16-bits b (p + 2)) (u16-bits b (p + 4))

-- a + b·s·m_sat in a season, compared in whole numbers
exponent-whole : (limit : ℕ) (c : Option Canister) (m : ℕ) {season : Season} → SeasonInRange season
    → (¬ (c ≡ None) → exponent_at season (signed_tenths season.highest) (size c) (m /10^ 1) ≤ᶠ whole limit)
    → reached season.vp (warmth season.highest) (halves c) m ≤ most limit season.vp
exponent-whole limit c m {season} r h = ltb-false _ _ (saturation-is limit c m r ∙ tests-met (saturation-tests limit c m season) h)

-- a canister has a size
canister-halves : (c : Option Canister) → ¬ (c ≡ None) → 0 < halves c
unfolding halves
canister-halves None n = absurd (n refl)
canister-halves (Some Small) n = omega arith
canister-halves (Some Medium) n = omega arith
canister-halves (Some Large) n = omega arith

-- in every version: before version 3 there is no mileage
mileage-right : {s : List ℕ} {i : ℕ} → AcceptedRow s i → MileageRight s (row_at s i)
mileage-right {s} {i} r =
    elim (dec_le 3 (version_of s)) [
      | yes new ↦ r.mileage new
      | no old ↦ let none = r.no-mileage (omega arith) in (omega arith, λ km. absurd (omega arith))
    ]

-- a row of an accepted sheet, in each of its seasons
pub row-in-range : {s : List ℕ} {i j : ℕ} → Bytes s → Accepted s → i < rows_of s → j < seasons_of s → RowInRange (season_at s j) (row_at s i)
row-in-range {s} {i} {j} bytes a row season =
    let r = a.row i row in
    let c = (row_at s i).canister in
    let m = (row_at s i).saturation in
    let in-season = (a.season j season).in-range bytes in
    let low = exponent-whole 3 c m in-season (r.exponent j season) in
    let right : MileageRight s (row_at s i) = mileage-right r in
    record {
      fill-most = r.fill-most;
      tank-most = r.tank-most;
      minutes-most = r.minutes-most;
      load-most = r.load-most;
      exponent-most = omega arith;
      mileage-most = right.0;
      driven = λ km.
          let ((there, none), exponent) = right.1 km in
          let zero-low = exponent-whole 0 c m in-season (exponent j season) in
          record { canister-there = canister-halves c there; no-load = none; exponent-low = omega arith };
    }
