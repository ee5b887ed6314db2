-- How large a row's figures and words can be: all fit 64 bits, and its words are bounded by its vehicles.
-- Assumes nothing.
use mathlib.Core.Path.{◌≡◌, ap}
use mathlib.Core.List.{List, [], ◌∷◌}
use Prim.Native.Nat.{ℕ, suc, zero, ◌+◌, ◌*◌, ◌-◌, ◌/◌, ◌^◌, ◌≤◌, ◌<◌}
use native.Mathlib.Nat.{mul-le-mul_left, mul-le-mul_right, mul-le-mul}
use native.Mathlib.Omega.{arith}
use lib.Dec.{lit<}
use lib.ListN.{get_or}
use Rattle.exact.specs.declared.Season.{Season}
use Rattle.exact.specs.declared.Row.{Row}
use Rattle.exact.specs.Factors.{Factor, F1, F2, F3, F4, F5, F6, F7}
use Rattle.exact.specs.Masses.{Mechanism, diurnal, soak, running}
use Rattle.factors.specs.Units.{factor_units, low_micrograms, high_micrograms}
use Rattle.factors.proofs.FactorBound.{low-below-high}
use Rattle.factors.proofs.Sizes.{grams_limit}
use Rattle.sheet.specs.Limits.{days_limit, trips_limit}
use Rattle.masses.specs.Figures.{µg, blended, day_figure, year_figure, low_figure, high_figure, row_figures}
use Rattle.masses.specs.Bands.{all_days}
use Rattle.masses.specs.AnyCounts.{Every, Shares}
use Rattle.masses.proofs.MassBound.{every_map}

-- how large factor k can be within the limits of a sheet, in micrograms
abbrev pub factor_most : Factor → ℕ
factor_most k = grams_limit k * 10 ^ 6

-- that is for each factor but the first
abbrev pub trip_most : ℕ
trip_most = factor_most F2

-- every figure of a season and row is at most that
pub record Sized (counts : List ℕ) (row : Row) (season : Season) : Type 0 where
  pub most : (k : Factor) → high_micrograms (factor_units season row counts k) ≤ factor_most k

-- parts of at most B, with shares p and q of 100
pub mixed-most : (p q B : ℕ) {h w : ℕ} → p + q ≡ 100 → h ≤ B → w ≤ B → p * h + q * w ≤ 100 * B
mixed-most p q B e a b = omega (arith, mul-le-mul_left p a, mul-le-mul_left q b, ap (λ (t : ℕ). t * B) e)

-- all parts, with share c of those that are mixed with share p, in percent
pub blend-most : (c p B : ℕ) {h w i : ℕ} → c ≤ 100 → p ≤ 100 → h ≤ B → w ≤ B → i ≤ B
    → c * (p * h + (100 - p) * w) + (100 - c) * 100 * i ≤ 10000 * B
blend-most c p B c-most p-most a b d =
    let mixed = mul-le-mul_left c (mixed-most p (100 - p) B (omega arith) a b) in
    let others = mul-le-mul_left ((100 - c) * 100) d in
    let all : c + (100 - c) ≡ 100 = omega arith in
    omega (arith, ap (λ (t : ℕ). t * (100 * B)) all)

-- how large the figure of one vehicle on one day can be, in units of 10⁻¹² g
abbrev pub day_most : ℕ
day_most = trips_limit * (10000 * trip_most)

-- and that of a year
abbrev pub year_most : ℕ
year_most = day_most * days_limit

-- a year's figure fits 64 bits
pub year-fits : year_most < 2 ^ 64
year-fits = lit< tt

-- the milligrams of a row for each of its vehicles
abbrev pub vehicle_most : ℕ
vehicle_most = year_most / 10 ^ 9

module _ {row : Row} (shares : Shares row) (trips-most : row.trips ≤ trips_limit) (micrograms : ℕ → ℕ) (counts : List ℕ) where
  -- a blend of parts of at most B
  blended-most : (season : Season) (B : ℕ) {h w i : ℕ} → h ≤ B → w ≤ B → i ≤ B → blended row h w i ≤ 10000 * B
  unfolding blended
  blended-most season B a b c = blend-most row.carburettor row.hot B shares.carburettor-most shares.hot-most a b c

  -- trips times a blend
  trips-times : (season : Season) {h w i : ℕ} → h ≤ trip_most → w ≤ trip_most → i ≤ trip_most
      → row.trips * blended row h w i ≤ day_most
  trips-times season a b c = mul-le-mul trips-most (blended-most season trip_most a b c)

  -- a day's figure
  pub day-most : (season : Season) → ((k : Factor) → µg micrograms counts season row k ≤ factor_most k) → (mechanism : Mechanism)
      → day_figure micrograms counts season row mechanism ≤ day_most
  unfolding day_figure
  day-most season h diurnal = omega (arith, h F1)
  day-most season h soak = trips-times season (h F4) (h F3) (h F2)
  day-most season h running = trips-times season (h F7) (h F6) (h F5)

  -- a year's figure grows with its days
  year-most : (seasons : List Season) → Every (λ (season : Season). (k : Factor) → µg micrograms counts season row k ≤ factor_most k) seasons
      → (mechanism : Mechanism) → year_figure micrograms counts seasons row mechanism ≤ day_most * all_days seasons
  unfolding year_figure all_days
  year-most [] h mechanism = omega arith
  year-most (season ∷ seasons) (h, hs) mechanism =
      omega (arith, year-most seasons hs mechanism, mul-le-mul_left season.days (day-most season h mechanism))

-- a row over seasons within the limits of a sheet
pub record RowSized (counts : List ℕ) (seasons : List Season) (row : Row) : Type 0 where
  pub shares : Shares row
  pub trips-most : row.trips ≤ trips_limit
  pub days-most : all_days seasons ≤ days_limit
  pub sized : Every (Sized counts row) seasons

-- milligrams for v vehicles, cut up, from a year's figure of each
cut_most : (y v : ℕ) → y ≤ year_most → (y * v + (10 ^ 9 - 1)) / 10 ^ 9 ≤ vehicle_most * v
cut_most y v h = omega (arith, mul-le-mul_right v h)

module _ {counts : List ℕ} {seasons : List Season} {row : Row} (r : RowSized counts seasons row) where
  -- a year's high figure
  high-year-most : (mechanism : Mechanism) → year_figure high_micrograms counts seasons row mechanism ≤ year_most
  unfolding µg
  high-year-most mechanism =
      let y = year-most r.shares r.trips-most high_micrograms counts seasons (every_map (λ season e. e.most) seasons r.sized) mechanism in
      omega (arith, r.days-most)

  -- its low figure
  low-year-most : (mechanism : Mechanism) → year_figure low_micrograms counts seasons row mechanism ≤ year_most
  unfolding µg
  low-year-most mechanism =
      let below : (season : Season) → Sized counts row season → (k : Factor) → low_micrograms (factor_units season row counts k) ≤ factor_most k
      = λ season e k. omega (arith, low-below-high (factor_units season row counts k), e.most k) in
      let y = year-most r.shares r.trips-most low_micrograms counts seasons (every_map below seasons r.sized) mechanism in
      omega (arith, r.days-most)

  -- the row's high figure in milligrams
  high-most : (mechanism : Mechanism) → high_figure counts seasons row mechanism ≤ vehicle_most * row.vehicles
  unfolding high_figure
  high-most mechanism = cut_most _ row.vehicles (high-year-most mechanism)

  -- its low figure
  low-most : (mechanism : Mechanism) → low_figure counts seasons row mechanism ≤ vehicle_most * row.vehicles
  unfolding low_figure
  low-most mechanism =
      omega (arith, cut_most (year_figure low_micrograms counts seasons row mechanism) row.vehicles (low-year-most mechanism))

  -- each of the row's six words
  pub word-most : (j : ℕ) → get_or (row_figures counts seasons row) j 0 ≤ vehicle_most * row.vehicles
  unfolding row_figures
  word-most zero = low-most diurnal
  word-most (suc zero) = high-most diurnal
  word-most (suc (suc zero)) = low-most soak
  word-most (suc (suc (suc zero))) = high-most soak
  word-most (suc (suc (suc (suc zero)))) = low-most running
  word-most (suc (suc (suc (suc (suc zero))))) = high-most running
  word-most (suc (suc (suc (suc (suc (suc j)))))) = omega arith
