-- The seven factors as the program makes them up, from the escapes of a row and the means of a season.
use mathlib.Core.Bool.{Bool, true, false}
use mathlib.Core.List.{List}
use mathlib.Core.Path.{◌≡◌, refl, ap, ap₂}
use Prim.Native.Nat.{ℕ, ◌+◌, ◌*◌, ◌/◌, ◌^◌, ◌≤◌, ◌<◌}
use native.Mathlib.Omega.{arith}
use native.Mathlib.Nat.{mul-le-mul, mul-le-mul_right}
use lib.Dec.{leb}
use Rattle.exact.specs.declared.Season.{Season}
use Rattle.exact.specs.declared.Row.{Row}
use Rattle.exact.specs.Factors.{Factor, F1, F2, F3, F4, F5, F6, F7}
use Rattle.sheet.specs.Range.{SeasonInRange}
use Rattle.marks.specs.AtMarks.{rates_at}
use Rattle.factors.specs.Units.{start_of, end_of, diurnal_units, soak_units, running_units, car_units, two_wheeler_units, factor_units}
use Rattle.sheet.specs.Range.{RowInRange}
use Rattle.factors.proofs.Mean.{mean_units-most}
use Rattle.factors.proofs.Sizes.{grams_limit, raised-rate-most, factor_units-most}
use Rattle.row_factors.specs.declared.season.Means.{Means}
use Rattle.row_factors.specs.declared.escapes.Kind.{Kind}
use Rattle.row_factors.specs.declared.escapes.Kind.TheVariants.{Car, TwoWheeler}
use Rattle.row_factors.specs.declared.escapes.Escapes.{Escapes}
use Rattle.row_factors.specs.Season.{mean_at, MeansOf}
use Rattle.row_factors.specs.Seven.{kind_of, parking_escape, EscapesOf, seven_of, SevenFit, seven_units}

module _ (season : Season) (row : Row) (cells : List ℕ) where
  -- the class decides
  car-kind : leb 5 row.class ≡ false → kind_of row.class ≡ Car
  unfolding kind_of
  car-kind class = rw (class, kind_of)

  two-wheeler-kind : leb 5 row.class ≡ true → kind_of row.class ≡ TwoWheeler
  unfolding kind_of
  two-wheeler-kind class = rw (class, kind_of)

  car-unit : leb 5 row.class ≡ false → (f : Factor) → factor_units season row cells f ≡ car_units season row cells f
  unfolding factor_units
  car-unit class f = rw (class, factor_units)

  two-wheeler-unit : leb 5 row.class ≡ true → (f : Factor) → factor_units season row cells f ≡ two_wheeler_units season row cells f
  unfolding factor_units
  two-wheeler-unit class f = rw (class, factor_units)

  module _ {m : Means} (means : MeansOf season cells m) where
    -- factor 1, of every class
    diurnal-is : {x : ℕ} → x ≡ parking_escape season row cells → x + m.permeation ≡ diurnal_units season row cells
    unfolding diurnal_units
    diurnal-is h = ap₂ (λ (x y : ℕ). x + y) h means.permeation-is

    -- permeation in the minutes of a trip
    running-is : row.minutes * m.run / 60 ≡ running_units season row cells
    unfolding running_units
    running-is = ap (λ (x : ℕ). row.minutes * x / 60) means.run_is

    -- the seven of a car
    pub car-seven : {e : Escapes} → leb 5 row.class ≡ false → EscapesOf season row cells Car e
        → seven_of Car e m row.minutes ≡ seven_units season row cells
    unfolding seven_of seven_units car_units soak_units
    car-seven class escapes =
        rw (
          car-unit class F1,
          car-unit class F2,
          car-unit class F3,
          car-unit class F4,
          car-unit class F5,
          car-unit class F6,
          car-unit class F7,
          diurnal-is escapes.parking-is,
          running-is,
          means.soak-is,
          escapes.soak-is,
          escapes.hotsoak-is,
          escapes.trip-is,
          escapes.hottrip-is,
        )

    -- of a two-wheeler
    pub two-wheeler-seven : {e : Escapes} → leb 5 row.class ≡ true → EscapesOf season row cells TwoWheeler e
        → seven_of TwoWheeler e m row.minutes ≡ seven_units season row cells
    unfolding seven_of seven_units two_wheeler_units
    two-wheeler-seven class escapes =
        rw (
          two-wheeler-unit class F1,
          two-wheeler-unit class F2,
          two-wheeler-unit class F3,
          two-wheeler-unit class F4,
          two-wheeler-unit class F5,
          two-wheeler-unit class F6,
          two-wheeler-unit class F7,
          diurnal-is escapes.parking-is,
          escapes.soak-is,
          escapes.hotsoak-is,
          escapes.trip-is,
          escapes.hottrip-is,
        )

    -- of the kind that the class says
    pub seven-right : {e : Escapes} {kind : Kind} → kind ≡ kind_of row.class → EscapesOf season row cells kind e
        → seven_of kind e m row.minutes ≡ seven_units season row cells
    seven-right {e} k escapes = rw k (go (leb 5 row.class) refl (rw k at escapes))
      where
        go : (b : Bool) → leb 5 row.class ≡ b → EscapesOf season row cells (kind_of row.class) e
            → seven_of (kind_of row.class) e m row.minutes ≡ seven_units season row cells
        go true class escapes = let k = two-wheeler-kind class in rw k (two-wheeler-seven class (rw k at escapes))
        go false class escapes = let k = car-kind class in rw k (car-seven class (rw k at escapes))

-- No sum overflows, since each is a factor.

-- a factor is below 17,000 g
grams-most : (f : Factor) → grams_limit f ≤ 2700
grams-most F1 = omega arith
grams-most F2 = omega arith
grams-most F3 = omega arith
grams-most F4 = omega arith
grams-most F5 = omega arith
grams-most F6 = omega arith
grams-most F7 = omega arith

module _ {season : Season} {row : Row} (s : SeasonInRange season) (r : RowInRange season row) (cells : List ℕ) where
  unit-fits : (f : Factor) → factor_units season row cells f < 2 ^ 63
  unit-fits f = omega (arith, factor_units-most s r cells f, mul-le-mul_right (2 ^ 28) (grams-most f))

  car-fits : leb 5 row.class ≡ false → (f : Factor) → car_units season row cells f < 2 ^ 63
  car-fits class f = rw (car-unit season row cells class f) at (unit-fits f)

  two-wheeler-fits : leb 5 row.class ≡ true → (f : Factor) → two_wheeler_units season row cells f < 2 ^ 63
  two-wheeler-fits class f = rw (two-wheeler-unit season row cells class f) at (unit-fits f)

  module _ {m : Means} (means : MeansOf season cells m) where
    -- a gram per hour at most
    rate-most : (k : ℕ) (mark : ℕ → ℕ) {x : ℕ} → k ≤ 150 → x ≡ mean_at cells mark (rates_at season k) → x ≤ 2 ^ 28
    rate-most k mark h e =
        rw e
        (mean_units-most cells (λ (cell : ℕ). rates_at season k (mark cell)) (2 ^ 28)
        (λ cell. omega (arith, raised-rate-most s r k (mark cell) h)))

    -- for 1,440 minutes
    minutes-fit : row.minutes * m.run < 2 ^ 63
    minutes-fit = omega (arith, mul-le-mul r.minutes-most (rate-most 150 end_of (omega arith) means.run_is))

    car-ready : {e : Escapes} → leb 5 row.class ≡ false → EscapesOf season row cells Car e → SevenFit e m row.minutes
    unfolding car_units soak_units
    car-ready class escapes = record {
      diurnal-fits = omega (arith, diurnal-is season row cells means escapes.parking-is, car-fits class F1);
      warm-fits = omega (arith, escapes.soak-is, means.soak-is, car-fits class F3);
      hot-fits = omega (arith, escapes.hotsoak-is, means.soak-is, car-fits class F4);
      run_fits = minutes-fit;
      trip-fits = omega (arith, escapes.trip-is, car-fits class F6);
      hottrip-fits = omega (arith, escapes.hottrip-is, car-fits class F7);
    }

    two-wheeler-ready : {e : Escapes} → leb 5 row.class ≡ true → EscapesOf season row cells TwoWheeler e → SevenFit e m row.minutes
    unfolding two_wheeler_units
    two-wheeler-ready class escapes =
        let soak = rate-most 110 start_of (omega arith) means.soak-is in
        record {
          diurnal-fits = omega (arith, diurnal-is season row cells means escapes.parking-is, two-wheeler-fits class F1);
          warm-fits = omega (arith, soak, escapes.soak-is, two-wheeler-fits class F2);
          hot-fits = omega (arith, soak, escapes.hotsoak-is, two-wheeler-fits class F3);
          run_fits = minutes-fit;
          trip-fits = omega (arith, escapes.trip-is, two-wheeler-fits class F5);
          hottrip-fits = omega (arith, escapes.hottrip-is, two-wheeler-fits class F6);
        }

    pub seven-fits : {e : Escapes} {kind : Kind} → kind ≡ kind_of row.class → EscapesOf season row cells kind e → SevenFit e m row.minutes
    seven-fits {e} k escapes = go (leb 5 row.class) refl (rw k at escapes)
      where
        go : (b : Bool) → leb 5 row.class ≡ b → EscapesOf season row cells (kind_of row.class) e → SevenFit e m row.minutes
        go true class escapes = two-wheeler-ready class (rw (two-wheeler-kind season row cells class) at escapes)
        go false class escapes = car-ready class (rw (car-kind season row cells class) at escapes)
