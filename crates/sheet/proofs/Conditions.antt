-- "Where a sheet stops", numbers 1 to 21 and 24 to 26 as demands in plain arithmetic, each with its place: a sheet is accepted
-- where all are met, and else the first that is not met gives the number and the place.
-- Assumes nothing.
use mathlib.Core.Bool.{Bool, false}
use mathlib.Core.List.{List}
use mathlib.Core.Logic.{◌⊎◌}
use mathlib.Core.Path.{◌≡◌, refl, sym, ap, ◌∙◌}
use Prim.Native.Nat.{ℕ, suc, zero, ◌≤◌, ◌<◌}
use native.Mathlib.Omega.{arith}
use Rattle.std.proofs.Common.{Option, Some, None}
use Rattle.std.proofs.lemmas.Bool.{true≢false}
use Rattle.numbers.specs.Fraction.{◌≤ᶠ◌, whole, ◌/10^◌}
use Rattle.exact.specs.declared.Canister.{Canister}
use Rattle.exact.specs.declared.Fitted.{Fitted}
use Rattle.exact.specs.Classes.{absent}
use Rattle.exact.specs.declared.Season.{Season}
use Rattle.exact.specs.declared.Row.{Row}
use Rattle.exact.specs.Day.{signed_tenths}
use Rattle.exact.specs.Canister.{size}
use Rattle.refusals.specs.declared.Rule.{Rule}
use Rattle.refusals.specs.declared.Rule.TheVariants as rule
use Rattle.refusals.specs.Rule.{number}
use Rattle.refusals.specs.Check.{Pass, Refused, number_of, place_of}
use Rattle.sheet.specs.Bytes.{seasons_of, rows_of, season_at}
use Rattle.sheet.specs.Sheet.{outside, letters_missing, mark_check, numbers_check, head_check, length_check, parking_check, temperatures_wrong}
use Rattle.sheet.specs.Sheet.{season_check, is_absent, code_wrong, percent_wrong, load_wrong, exponent_above, saturation_above, some_season}
use Rattle.sheet.specs.Sheet.{no_canister}
use Rattle.sheet.specs.Sheet.{mileage_wrong, row_check, sheet_check}
use Rattle.sheet.specs.Demands.{Met, Says, mark_demands, numbers_demands, head_demands, length_demand, parking_demands, season_demands}
use Rattle.sheet.specs.Demands.{exponent_at, MileageRight, row_demands, demands}
use Rattle.sheet.specs.Conditions.{ConditionsTheorem}
use Rattle.sheet.proofs.Checks.{Tests, Judges, Once, Unmet, unmet, Broken, broken}
use Rattle.sheet.proofs.Checks.{met-passes, says, below_suc, judges-refuse, judges-then}
use Rattle.sheet.proofs.Checks.{judges-each, ◌⊳◌, ltb-tests, ||-tests, &&-tests, tests-as, not-tests, eqb-shows}
use Rattle.sheet.proofs.Checks.{≤-shows, &&-shows, leb-shows, not-leb-shows, guarded}

-- a number outside least to most
pub outside-tests : (least most x : ℕ) → Tests (outside least most x) ((least ≤ x) × (x ≤ most))
unfolding outside
outside-tests least most x = ||-tests (ltb-tests x least) (ltb-tests most x)

-- what mark_check judges
pub mark-judged : (s : List ℕ) → Judges (mark_check s) (mark_demands s)
unfolding mark_check letters_missing
mark-judged s =
    ltb-tests _ _ ⊳ judges-refuse (not-tests (&&-shows (&&-shows (eqb-shows _ _) (eqb-shows _ _)) (eqb-shows _ _)))

-- numbers_check
numbers-judged : (s : List ℕ) → Judges (numbers_check s) (numbers_demands s)
unfolding numbers_check
numbers-judged s =
    outside-tests _ _ _ ⊳
    outside-tests _ _ _ ⊳
    outside-tests _ _ _ ⊳
    judges-refuse (guarded (not-leb-shows _ _) (not-tests (eqb-shows _ _)))

-- head_check
pub head-judged : (s : List ℕ) → Judges (head_check s) (head_demands s)
unfolding head_check
head-judged s = judges-then (mark-judged s) (numbers-judged s)

-- length_check
pub length-judged : (s : List ℕ) → Judges (length_check s) (length_demand s)
unfolding length_check
length-judged s = judges-refuse (not-tests (eqb-shows _ _))

-- parking_check
pub parking-judged : (s : List ℕ) → Judges (parking_check s) (parking_demands s)
unfolding parking_check
parking-judged s =
    guarded (not-leb-shows _ _) (outside-tests _ _ _) ⊳
    guarded (not-leb-shows _ _) (outside-tests _ _ _) ⊳
    judges-refuse (guarded (leb-shows _ _) (outside-tests _ _ _))

-- season_check
pub season-judged : (s : List ℕ) (i : ℕ) → Judges (season_check s i) (season_demands s i)
unfolding season_check temperatures_wrong
season-judged s i =
    ||-tests (outside-tests _ _ _) (ltb-tests _ _) ⊳
    not-tests (&&-shows (&&-shows (≤-shows _ _) (≤-shows _ _)) (≤-shows _ _)) ⊳
    judges-refuse (outside-tests _ _ _)

-- 13: a pair that is in the table
absent-tests : (e : Option Fitted) → Tests (is_absent e) (¬ (e ≡ absent))
unfolding is_absent
absent-tests None = record { holds = λ e. absurd (true≢false e); fails = λ _ n. n refl }
absent-tests (Some f) = record { holds = λ _ e. let z : ◌≡◌ {A = ℕ} 0 1 = cc in omega arith; fails = λ e. absurd (true≢false (sym e)) }

-- 14: a code of 0 to 3, or 255
code-tests : (code : ℕ) → Tests (code_wrong code) ((code ≤ 3) ⊎ (code ≡ 255))
unfolding code_wrong
code-tests code = &&-tests (ltb-tests 3 code) (not-tests (eqb-shows code 255))

-- 19: a load up to m_sat, and m_sat 0 with no canister
load-tests : (c : Option Canister) (load saturation : ℕ) → Tests (load_wrong c load saturation) ((load ≤ saturation) × (c ≡ None → saturation ≡ 0))
unfolding load_wrong
load-tests None load saturation =
    tests-as (λ (h, k). (omega arith, λ _. omega arith)) (λ (h, k). let z : saturation ≡ 0 = k refl in (omega arith, omega arith))
    (||-tests (ltb-tests 0 load) (ltb-tests 0 saturation))
load-tests (Some c) load saturation = tests-as (λ h. (h, λ e. cc)) (λ (h, k). h) (ltb-tests saturation load)

-- a size is a canister
fitted : {c : Option Canister} → no_canister c ≡ false → ¬ (c ≡ None)
unfolding no_canister
fitted h e = true≢false (sym (ap no_canister e) ∙ h)

none-tests : (c : Option Canister) → Tests (no_canister c) (¬ (c ≡ None))
unfolding no_canister
none-tests None = record { holds = λ e. absurd (true≢false e); fails = λ _ n. n refl }
none-tests (Some c) = record { holds = fitted; fails = λ e. absurd (true≢false (sym e)) }

-- 20, and the last part of 25, in one season, for a canister if there is one
pub saturation-tests : (limit : ℕ) (c : Option Canister) (saturation : ℕ) (season : Season)
    → Tests (saturation_above limit c saturation season)
    (¬ (c ≡ None) → exponent_at season (signed_tenths season.highest) (size c) (saturation /10^ 1) ≤ᶠ whole limit)
unfolding saturation_above exponent_above no_canister
saturation-tests limit None saturation season = record { holds = λ _ n. absurd (n refl); fails = λ e. absurd (true≢false (sym e)) }
saturation-tests limit (Some c) saturation season = tests-as (λ h _. h) (λ f. f (fitted refl)) (not-tests (≤-shows _ _))

-- a test at some season demands the same of every season
pub some_tests : {P : Season → Type 0} (wrong : Season → Bool) → ((season : Season) → Tests (wrong season) (P season))
    → (s : List ℕ) (n : ℕ) → Tests (some_season wrong s n) ((j : ℕ) → j < n → P (season_at s j))
unfolding some_season
some_tests wrong t s zero =
    record { holds = λ _ j l. absurd (omega arith); fails = λ e. absurd (true≢false (sym e)) }
some_tests {P} wrong t s (suc n) =
    tests-as (λ (before, last). below_suc {P = λ (j : ℕ). P (season_at s j)} before last)
    (λ f. ((λ j l. f j (omega arith)), f n (omega arith)))
    (||-tests (some_tests wrong t s n) (t (season_at s n)))

-- 25
mileage-tests : (s : List ℕ) (row : Row) → Tests (mileage_wrong s row) (MileageRight s row)
unfolding mileage_wrong
mileage-tests s row =
    ||-tests (ltb-tests _ _)
    (guarded (leb-shows _ _) (||-tests (||-tests (none-tests _) (not-tests (eqb-shows _ _))) (some_tests _ (saturation-tests 0 _ _) _ _)))

-- row_check
pub row-judged : (s : List ℕ) (i : ℕ) → Judges (row_check s i) (row_demands s i)
unfolding row_check percent_wrong
row-judged s i =
    absent-tests _ ⊳
    code-tests _ ⊳
    ||-tests (||-tests (ltb-tests _ _) (ltb-tests _ _)) (ltb-tests _ _) ⊳
    ltb-tests _ _ ⊳
    guarded (leb-shows _ _) (ltb-tests _ _) ⊳
    ltb-tests _ _ ⊳
    ||-tests (ltb-tests _ _) (ltb-tests _ _) ⊳
    load-tests _ _ _ ⊳
    some_tests _ (saturation-tests 3 _ _) _ _ ⊳
    guarded (not-leb-shows _ _) (not-tests (eqb-shows _ _)) ⊳
    judges-refuse (guarded (leb-shows _ _) (mileage-tests _ _))

-- a sheet is accepted where all demands are met, and else refused with the number and the place of the first that is not
pub sheet-judged : (s : List ℕ) → Judges (sheet_check s) (demands s)
unfolding sheet_check
sheet-judged s =
    judges-then (head-judged s)
    (judges-then (length-judged s)
    (judges-then (parking-judged s)
    (judges-then (judges-each (seasons_of s) (season-judged s)) (judges-each (rows_of s) (row-judged s)))))

-- no number stands for two demands
once : (s : List ℕ) → Once (demands s)
unfolding number
once s = (
  refl,
  (refl, (refl, tt, tt), (refl, tt, (refl, tt, (refl, tt, tt)))),
  (
    refl,
    tt,
    (
      refl,
      (refl, tt, (refl, tt, tt)),
      (
        refl,
        (λ i. (refl, (refl, tt, (refl, tt, tt)))),
        (λ i. (
          refl,
          (
            refl,
            tt,
            (
              refl,
              tt,
              (
                refl,
                tt,
                (refl, tt, (refl, tt, (refl, tt, (refl, tt, (refl, tt, (refl, tt, (refl, tt, tt))))))),
              ),
            ),
          ),
        )),
      ),
    ),
  ),
)

-- a sheet is accepted where all demands are met
pub met-accepted : (s : List ℕ) → Met (demands s) → sheet_check s ≡ Pass
met-accepted s met = met-passes (sheet_check s) (sheet-judged s) met

-- a number is returned only where its demand is not met, and all before it are: at each of these numerals this computes to the
-- line of that number in the tables above, with its place, and those before it
pub refused : (s : List ℕ) (r : Rule) (p : ℕ) → sheet_check s ≡ Refused r p → Unmet (number r) p (demands s)
refused s r p h = unmet (number r) p (demands s) (once s) ((sheet-judged s).refuses r p h)

-- so the number and the place of the answer say what is met and what is not
pub sheet-says : (s : List ℕ) → Says (demands s) (number_of (sheet_check s)) (place_of (sheet_check s))
sheet-says s = says (sheet_check s) (sheet-judged s)

-- "a number is returned only where its condition holds"
pub conditions : ConditionsTheorem
unfolding number
conditions s p =
    let only : (r : Rule) → sheet_check s ≡ Refused r p → Broken (number r) p (demands s) =
    λ r h. broken (number r) p (demands s) (refused s r p h) in
    record {
      short = only rule.HeadShort;
      mark = only rule.Mark;
      version = only rule.Version;
      seasons = only rule.Seasons;
      rows = only rule.Rows;
      byte-7 = only rule.HeadZero;
      length-wrong = only rule.Length;
      durations = only rule.Durations;
      hours = only rule.Hours;
      grid = only rule.Grid;
      days = only rule.Days;
      temperatures = only rule.Temperatures;
      vapour-pressure = only rule.VapourPressure;
      class-technology = only rule.Class;
      canister-code = only rule.CanisterCode;
      percents = only rule.Percent;
      vehicles = only rule.Vehicles;
      fleet = only rule.Fleet;
      tank = only rule.Tank;
      trips-minutes = only rule.Trips;
      loads = only rule.Load;
      saturation = only rule.Exponent;
      bytes-20-to-23 = only rule.RowZeros;
      mileage = only rule.Mileage;
    }
