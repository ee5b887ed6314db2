-- Need not be believed: the computed escapes of a row in a season, from which its seven factors are made.
use Rattle.std.specs.Prelude.{true, false, List, [], ◌∷◌, ◌≡◌, ℕ, ◌+◌, ◌*◌, ◌/◌, ◌^◌, ◌<◌, ◌≤◌, leb}
use Rattle.exact.specs.declared.Season.{Season}
use Rattle.exact.specs.declared.Row.{Row}
use Rattle.exact.specs.Factors.{F1, F2, F3, F4, F5, F6, F7}
use Rattle.marks.specs.Marks.{tenths}
use Rattle.marks.specs.AtMarks.{raises_by}
use Rattle.factors.specs.Means.{mean_units}
use Rattle.factors.specs.Units.{start_of, end_of, parking_rise, escape_units, escape_over_units, open_units, factor_units}
use Rattle.parking.specs.declared.season_list.SeasonList.{SeasonList}
use Rattle.parking.specs.SeasonList.{by_entry}
use Rattle.breakthrough.specs.declared.curve.Curve.{Curve}
use Rattle.breakthrough.specs.Through.{curve_at, through}
use Rattle.row_factors.specs.declared.season.Means.{Means}
use Rattle.row_factors.specs.declared.escapes.Kind.{Kind}
use Rattle.row_factors.specs.declared.escapes.Kind.TheVariants.{Car, TwoWheeler}
use Rattle.row_factors.specs.declared.escapes.Escapes.{Escapes}
use Rattle.row_factors.specs.Season.{mean_at}

-- the kind of a class
unfoldable pub kind_of : ℕ → Kind
kind_of class = elim (leb 5 class) [ true ↦ TwoWheeler | false ↦ Car ]

-- by how many tenths of °C a soak, a hot soak, a trip and a hot trip of a kind of vehicle raise the temperature
abbrev pub soak_raise : Kind → ℕ
soak_raise Car = 45
soak_raise TwoWheeler = 15

abbrev pub hotsoak_raise : Kind → ℕ
hotsoak_raise Car = 60
hotsoak_raise TwoWheeler = 35

abbrev pub trip_raise : ℕ
trip_raise = 10

abbrev pub hottrip_raise : Kind → ℕ
hottrip_raise Car = 50
hottrip_raise TwoWheeler = 25

-- the mean rise of E(0.0716·T) in a parking, and those of the raises of a kind of vehicle
pub record RisesOf (season : Season) (counts : List ℕ) (kind : Kind) (rises : Escapes) : Type 0 where
  pub parking-is : rises.parking ≡ mean_units counts (parking_rise season)
  pub soak-is : rises.soak ≡ mean_at counts start_of (raises_by season (soak_raise kind))
  pub hotsoak-is : rises.hotsoak ≡ mean_at counts start_of (raises_by season (hotsoak_raise kind))
  pub trip-is : rises.trip ≡ mean_at counts end_of (raises_by season trip_raise)
  pub hottrip-is : rises.hottrip ≡ mean_at counts end_of (raises_by season (hottrip_raise kind))

-- the mean of what breaks through: in a parking, from the list of a season, for a sum of all counts
abbrev pub parking_through : SeasonList → ℕ → List Curve → ℕ
parking_through list total curves = by_entry list (λ (start : ℕ) (rise : ℕ). through (curve_at curves start) rise / 2 ^ 12) / total

-- without canister: the vapour of five mean rises
pub record VapourOf (gain : ℕ) (rises e : Escapes) : Type 0 where
  pub parking-is : e.parking ≡ gain * rises.parking / 2 ^ 40
  pub soak-is : e.soak ≡ gain * rises.soak / 2 ^ 40
  pub hotsoak-is : e.hotsoak ≡ gain * rises.hotsoak / 2 ^ 40
  pub trip-is : e.trip ≡ gain * rises.trip / 2 ^ 40
  pub hottrip-is : e.hottrip ≡ gain * rises.hottrip / 2 ^ 40

-- how large these are
pub record RisesInRange (rises : Escapes) : Type 0 where
  pub parking-most : rises.parking ≤ 72 * 2 ^ 40
  pub soak-most : rises.soak ≤ 72 * 2 ^ 40
  pub hotsoak-most : rises.hotsoak ≤ 72 * 2 ^ 40
  pub trip-most : rises.trip ≤ 72 * 2 ^ 40
  pub hottrip-most : rises.hottrip ≤ 72 * 2 ^ 40

module _ (season : Season) (row : Row) (counts : List ℕ) where
  -- in a parking
  abbrev pub parking_escape : ℕ
  parking_escape = escape_units season row counts row.canister start_of (parking_rise season)

  -- on a trip: a car with canister loses no vapour
  abbrev pub trip_escape : Kind → ℕ → ℕ
  trip_escape Car r = open_units season row counts row.canister r
  trip_escape TwoWheeler r = escape_over_units season row counts end_of r

  -- of a kind of vehicle
  pub record EscapesOf (kind : Kind) (e : Escapes) : Type 0 where
    pub parking-is : e.parking ≡ parking_escape
    pub soak-is : e.soak ≡ escape_over_units season row counts start_of (tenths (soak_raise kind))
    pub hotsoak-is : e.hotsoak ≡ escape_over_units season row counts start_of (tenths (hotsoak_raise kind))
    pub trip-is : e.trip ≡ trip_escape kind (tenths trip_raise)
    pub hottrip-is : e.hottrip ≡ trip_escape kind (tenths (hottrip_raise kind))

  -- the seven factors in units of 2⁻²⁸ g
  unfoldable pub seven_units : List ℕ
  seven_units =
      factor_units season row counts F1 ∷ factor_units season row counts F2 ∷ factor_units season row counts F3 ∷
      factor_units season row counts F4 ∷ factor_units season row counts F5 ∷ factor_units season row counts F6 ∷
      factor_units season row counts F7 ∷ []

-- the seven factors of a kind of vehicle. Of a car: permeation in a parking, in a soak and in the minutes of a trip, and the escapes besides. Of
-- a two-wheeler: permeation counts in a parking alone
unfoldable pub seven_of : Kind → Escapes → Means → ℕ → List ℕ
seven_of Car e m minutes =
    (e.parking + m.permeation) ∷
    m.soak ∷
    (e.soak + m.soak) ∷
    (e.hotsoak + m.soak) ∷
    (minutes * m.run / 60) ∷
    (minutes * m.run / 60 + e.trip) ∷
    (minutes * m.run / 60 + e.hottrip) ∷ []
seven_of TwoWheeler e m minutes =
    (e.parking + m.permeation) ∷
    e.soak ∷ e.hotsoak ∷ e.hotsoak ∷ e.trip ∷ e.hottrip ∷ e.hottrip ∷ []

-- no sum of them overflows
pub record SevenFit (e : Escapes) (m : Means) (minutes : ℕ) : Type 0 where
  pub diurnal-fits : e.parking + m.permeation < 2 ^ 64
  pub warm-fits : e.soak + m.soak < 2 ^ 64
  pub hot-fits : e.hotsoak + m.soak < 2 ^ 64
  pub run_fits : minutes * m.run < 2 ^ 63
  pub trip-fits : e.trip < 2 ^ 63
  pub hottrip-fits : e.hottrip < 2 ^ 63
