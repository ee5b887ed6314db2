-- The checks of a sheet in the groups that the code makes of them.
-- Assumes nothing.
use mathlib.Core.Bool.{Bool, true, false, not, ◌&&◌, ◌||◌}
use mathlib.Core.Path.{◌≡◌, ap, ◌∙◌}
use Prim.Native.Nat.{ℕ, ◌+◌}
use Rattle.refusals.specs.declared.Rule.{Rule}
use Rattle.refusals.specs.declared.Rule.TheVariants as rule
use mathlib.Core.List.{List}
use lib.Dec.{ltb, eqb}
use Rattle.sheet.specs.Limits.{vehicles_limit, fleet_limit, tank_limit, trips_limit, minutes_limit}
use Rattle.sheet.specs.Integers.{u8_at, u16_at}
use Rattle.sheet.specs.Versions.{has_mileage, has_many_rows}
use Rattle.sheet.specs.Bytes.{seasons_of, row_place, row_at, equipment_at}
use Rattle.sheet.specs.RunningSums.{vehicles_before}
use Rattle.sheet.specs.Sheet.{is_absent, code_wrong, percent_wrong, load_wrong, some_season, saturation_above, mileage_wrong, row_check}
use Rattle.refusals.specs.Check.{Check, refuse, ◌then◌}
use Rattle.refusals.proofs.Chain.{then-assoc, then-pass-right}

-- the eleven rules of a row, in the groups that the code makes of them
pub row_stages : (s : List ℕ) (i : ℕ) → let row = row_at s i in let place = row_place s i in
    row_check s i
    ≡ ((refuse (is_absent (equipment_at s place)) rule.Class place then
    refuse (code_wrong (u8_at s (place + 2))) rule.CanisterCode place then
    refuse (percent_wrong row) rule.Percent place) then
    (refuse (ltb vehicles_limit row.vehicles) rule.Vehicles place then
    refuse (has_many_rows s && ltb fleet_limit (vehicles_before s i + row.vehicles)) rule.Fleet place) then
    (refuse (ltb tank_limit (u16_at s (place + 6))) rule.Tank place then
    refuse (ltb trips_limit row.trips || ltb minutes_limit row.minutes) rule.Trips place) then
    (refuse (load_wrong row.canister row.load row.saturation) rule.Load place then
    refuse (some_season (saturation_above 3 row.canister row.saturation) s (seasons_of s)) rule.Exponent place) then
    (refuse (not (has_mileage s) && not (eqb row.mileage 0)) rule.RowZeros place then
    refuse (has_mileage s && mileage_wrong s row) rule.Mileage place))
unfolding row_check
row_stages s i = simp then-assoc

-- Two numbers for sheets without a grid and one for those with it: the two alone, and the one alone.
module _ {g : Bool} (a b e : Bool) (m n p : Rule) (q r : ℕ) where
  pub lists-alone : {x : Check} → g ≡ false → x ≡ (refuse a m q then refuse b n r)
      → x ≡ (refuse (not g && a) m q then refuse (not g && b) n r then refuse (g && e) p q)
  unfolding refuse
  lists-alone h t = rw h (t ∙ ap (λ (d : Check). refuse a m q then d) (then-pass-right (refuse b n r)))

  pub grid-alone : {x : Check} → g ≡ true → x ≡ refuse e p q
      → x ≡ (refuse (not g && a) m q then refuse (not g && b) n r then refuse (g && e) p q)
  unfolding refuse ◌then◌
  grid-alone h t = rw h t

-- One number for the versions before, and one for those with it.
module _ {g : Bool} (a e : Bool) (m p : Rule) (q : ℕ) where
  pub old-alone : {x : Check} → g ≡ false → x ≡ refuse a m q → x ≡ (refuse (not g && a) m q then refuse (g && e) p q)
  unfolding refuse
  old-alone h t = rw h (t ∙ then-pass-right (refuse a m q))

  pub new-alone : {x : Check} → g ≡ true → x ≡ refuse e p q → x ≡ (refuse (not g && a) m q then refuse (g && e) p q)
  unfolding refuse ◌then◌
  new-alone h t = rw h t
