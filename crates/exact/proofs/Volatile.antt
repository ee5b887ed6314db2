-- A more volatile fuel gives factors and masses at least as large in a row without a canister, for every n and any cell weights.
-- Assumes nothing.
use Rattle.std.proofs.Common.{Option, None}
use mathlib.Core.Bool.{Bool, true, false}
use mathlib.Core.List.{List, [], ◌∷◌}
use mathlib.Core.Path.{◌≡◌, sym, subst}
use Prim.Native.Nat.{ℕ, suc, ◌*◌, ◌≤◌}
use lib.Dec.{leb}
use Rattle.numbers.specs.Fraction.{Fraction, ◌≤ᶠ◌, ◌+ᶠ◌, whole, ◌/10^◌}
use Rattle.numbers.proofs.Order.{NonNegative, ≤-refl, whole-NonNegative, decimal-NonNegative, decimal-mono, +-mono}
use Rattle.numbers.proofs.Order.{+-grows, *-mono-right, over-mono, over-NonNegative, times-mono}
use Rattle.exact.specs.declared.Canister.{Canister}
use Rattle.exact.specs.declared.Season.{Season}
use Rattle.exact.specs.declared.Row.{Row}
use Rattle.exact.specs.Day.{temperature}
use Rattle.exact.specs.Canister.{escape}
use Rattle.exact.specs.Factors.{Factor, F1, F2, F3, F4, F5, F6, F7, vp, row_vapour, row_escape, escape_over}
use Rattle.exact.specs.Factors.{open_vapour, hours, T1, T2, diurnal_factor, soak_permeation, running_permeation}
use Rattle.exact.specs.Factors.{car_factor, two_wheeler_factor, parking_factor, end_hour, duration, total, weighted_sum}
use Rattle.exact.specs.Factors.{mean, factor}
use Rattle.exact.specs.Masses.{Mechanism, diurnal, soak, running, blend, day_mass, mass}
use Rattle.exact.proofs.Pressure.{rest-NonNegative, permeation-rises, parking_permeation-rises, vapour-rises, parking_vapour-rises}

-- the season with another vapour pressure, in tenths of kPa
abbrev pub at_pressure : Season → ℕ → Season
at_pressure season vp = record { days = season.days; lowest = season.lowest; highest = season.highest; vp = vp }

-- the second list of seasons is the first, each at a pressure that is as high or higher
pub data MoreVolatile : List Season → List Season → Type 0 where
  none : MoreVolatile [] []
  next : (season : Season) (vp : ℕ) {seasons others : List Season} → season.vp ≤ vp → MoreVolatile seasons others
      → MoreVolatile (season ∷ seasons) (at_pressure season vp ∷ others)

-- a row without a canister, its three shares at most 100 percent
pub record WithoutCanister (row : Row) : Type 0 where
  pub no-canister : row.canister ≡ None
  pub carburettor-most : row.carburettor ≤ 100
  pub hot-most : row.hot ≤ 100
  pub fill-most : row.fill ≤ 100

-- Without a canister everything escapes.
all-escapes : (n : ℕ) (season : Season) (row : Row) → WithoutCanister row → (T v : Fraction) → row_escape n season row T v ≡ v
unfolding row_escape escape
all-escapes n season row o T v = rw o.no-canister

-- A season, and the same at a pressure k that is as high or higher.
module _ (n : ℕ) (season : Season) (k : ℕ) (l : season.vp ≤ k) (row : Row) (o : WithoutCanister row) where
  abbrev volatile : Season
  volatile = at_pressure season k

  vp-rises : vp n season row ≤ᶠ vp n volatile row
  unfolding vp
  vp-rises = decimal-mono 1 l

  row_vapour-rises : {T U : Fraction} → T ≤ᶠ U → row_vapour n season row T U ≤ᶠ row_vapour n volatile row T U
  unfolding row_vapour
  row_vapour-rises h =
      vapour-rises n vp-rises (row.fill /10^ 2) (row.tank /10^ 1) (rest-NonNegative o.fill-most)
      (decimal-NonNegative row.tank 1) h

  escape_over-rises : (T : Fraction) {rise : Fraction} → NonNegative rise → escape_over n season row T rise ≤ᶠ escape_over n volatile row T rise
  unfolding escape_over
  escape_over-rises T h = rw (all-escapes n season row o _ _, all-escapes n volatile row o _ _) (row_vapour-rises (+-grows T h))

  open_vapour-rises : (T : Fraction) {rise : Fraction} → NonNegative rise
      → open_vapour n season row row.canister T rise ≤ᶠ open_vapour n volatile row row.canister T rise
  unfolding open_vapour
  open_vapour-rises T {rise} h =
      subst (λ (c : Option Canister). open_vapour n season row c T rise ≤ᶠ open_vapour n volatile row c T rise) (sym o.no-canister)
      (row_vapour-rises (+-grows T h))

  -- of a parking that ends at an hour after d half-hours: its temperatures are those of either season
  module _ (hour d : ℕ) where
    diurnal-rises : diurnal_factor n season row hour d ≤ᶠ diurnal_factor n volatile row hour d
    unfolding diurnal_factor temperature T1
    diurnal-rises =
        rw (all-escapes n season row o _ _, all-escapes n volatile row o _ _)
        (+-mono
        (parking_vapour-rises n vp-rises (row.fill /10^ 2) (row.tank /10^ 1) (rest-NonNegative o.fill-most)
        (decimal-NonNegative row.tank 1) (temperature season) hour d)
        (parking_permeation-rises n vp-rises (temperature season) hour d))

    soak-rises : soak_permeation n season row hour d ≤ᶠ soak_permeation n volatile row hour d
    unfolding soak_permeation temperature T1
    soak-rises = permeation-rises n vp-rises (T1 n season row hour d +ᶠ whole 11)

    running-rises : running_permeation n season row hour d ≤ᶠ running_permeation n volatile row hour d
    unfolding running_permeation temperature T2 hours
    running-rises =
        *-mono-right (over-NonNegative 60 (whole-NonNegative row.minutes)) (permeation-rises n vp-rises (T2 n season row hour d +ᶠ whole 15))

    start-escape : {rise : Fraction} → NonNegative rise
        → escape_over n season row (T1 n season row hour d) rise ≤ᶠ escape_over n volatile row (T1 n volatile row hour d) rise
    unfolding temperature T1
    start-escape h = escape_over-rises (T1 n season row hour d) h

    end-escape : {rise : Fraction} → NonNegative rise
        → escape_over n season row (T2 n season row hour d) rise ≤ᶠ escape_over n volatile row (T2 n volatile row hour d) rise
    unfolding temperature T2
    end-escape h = escape_over-rises (T2 n season row hour d) h

    end-open : {rise : Fraction} → NonNegative rise
        → open_vapour n season row row.canister (T2 n season row hour d) rise ≤ᶠ open_vapour n volatile row
        row.canister (T2 n volatile row hour d) rise
    unfolding temperature T2
    end-open h = open_vapour-rises (T2 n season row hour d) h

    car_factor-rises : (f : Factor) → car_factor n season row hour d f ≤ᶠ car_factor n volatile row hour d f
    unfolding car_factor
    car_factor-rises F1 = diurnal-rises
    car_factor-rises F2 = soak-rises
    car_factor-rises F3 = +-mono (start-escape (decimal-NonNegative 45 1)) soak-rises
    car_factor-rises F4 = +-mono (start-escape (whole-NonNegative 6)) soak-rises
    car_factor-rises F5 = running-rises
    car_factor-rises F6 = +-mono running-rises (end-open (whole-NonNegative 1))
    car_factor-rises F7 = +-mono running-rises (end-open (whole-NonNegative 5))

    two_wheeler_factor-rises : (f : Factor) → two_wheeler_factor n season row hour d f ≤ᶠ two_wheeler_factor n volatile row hour d f
    unfolding two_wheeler_factor
    two_wheeler_factor-rises F1 = diurnal-rises
    two_wheeler_factor-rises F2 = start-escape (decimal-NonNegative 15 1)
    two_wheeler_factor-rises F3 = start-escape (decimal-NonNegative 35 1)
    two_wheeler_factor-rises F4 = start-escape (decimal-NonNegative 35 1)
    two_wheeler_factor-rises F5 = end-escape (whole-NonNegative 1)
    two_wheeler_factor-rises F6 = end-escape (decimal-NonNegative 25 1)
    two_wheeler_factor-rises F7 = end-escape (decimal-NonNegative 25 1)

    parking_factor-rises : (f : Factor) → parking_factor n season row hour d f ≤ᶠ parking_factor n volatile row hour d f
    unfolding parking_factor
    parking_factor-rises f = go (leb 5 row.class)
      where
        go : (two-wheeler : Bool)
            → elim two-wheeler [ true ↦ two_wheeler_factor n season row hour d f | false ↦ car_factor n season row hour d f ]
            ≤ᶠ elim two-wheeler [ true ↦ two_wheeler_factor n volatile row hour d f | false ↦ car_factor n volatile row hour d f ]
        go true = two_wheeler_factor-rises f
        go false = car_factor-rises f

-- Means.

weighted_sum-mono : {value other : ℕ → Fraction} → ((cell : ℕ) → value cell ≤ᶠ other cell) → (cell : ℕ) (counts : List ℕ)
    → weighted_sum value cell counts ≤ᶠ weighted_sum other cell counts
unfolding weighted_sum
weighted_sum-mono h cell [] = ≤-refl (whole 0)
weighted_sum-mono h cell (count ∷ counts) = +-mono (times-mono count (h cell)) (weighted_sum-mono h (suc cell) counts)

pub factor-rises : (n : ℕ) (counts : List ℕ) (season : Season) (k : ℕ) → season.vp ≤ k → (row : Row) → WithoutCanister row → (f : Factor)
    → factor n counts season row f ≤ᶠ factor n counts (at_pressure season k) row f
unfolding factor mean
factor-rises n counts season k l row o f =
    over-mono (total counts) (weighted_sum-mono (λ cell. parking_factor-rises n season k l row o (end_hour cell) (duration cell) f) 0 counts)

-- Masses.

blend-mono : {row : Row} → WithoutCanister row → {hot hot' warm warm' injection injection' : Fraction}
    → hot ≤ᶠ hot' → warm ≤ᶠ warm' → injection ≤ᶠ injection' → blend row hot warm injection ≤ᶠ blend row hot' warm' injection'
unfolding blend
blend-mono {row} o h w i =
    +-mono
    (*-mono-right (decimal-NonNegative row.carburettor 2)
    (+-mono (*-mono-right (decimal-NonNegative row.hot 2) h) (*-mono-right (rest-NonNegative o.hot-most) w)))
    (*-mono-right (rest-NonNegative o.carburettor-most) i)

module _ (n : ℕ) (counts : List ℕ) {row : Row} (o : WithoutCanister row) where
  day_mass-rises : (season : Season) (k : ℕ) → season.vp ≤ k → (m : Mechanism)
      → day_mass n counts season row m ≤ᶠ day_mass n counts (at_pressure season k) row m
  unfolding day_mass
  day_mass-rises season k l m = go m
    where
      rises : (f : Factor) → factor n counts season row f ≤ᶠ factor n counts (at_pressure season k) row f
      rises = factor-rises n counts season k l row o

      go : (m : Mechanism) → day_mass n counts season row m ≤ᶠ day_mass n counts (at_pressure season k) row m
      go diurnal = rises F1
      go soak = *-mono-right (decimal-NonNegative row.trips 2) (blend-mono o (rises F4) (rises F3) (rises F2))
      go running = *-mono-right (decimal-NonNegative row.trips 2) (blend-mono o (rises F7) (rises F6) (rises F5))

  pub mass-rises : {seasons others : List Season} → MoreVolatile seasons others → (m : Mechanism)
      → mass n counts seasons row m ≤ᶠ mass n counts others row m
  unfolding mass
  mass-rises none m = ≤-refl (whole 0)
  mass-rises (next season k l rest) m = +-mono (times-mono (season.days * row.vehicles) (day_mass-rises season k l m)) (mass-rises rest m)
