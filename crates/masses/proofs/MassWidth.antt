-- How far a row's low and high figures are apart, from factors whose two figures are at most `band_micrograms` apart; and the six
-- zeros of a row without vehicles.
-- Assumes nothing.
use mathlib.Core.Path.{◌≡◌}
use mathlib.Core.List.{List, [], ◌∷◌}
use Prim.Native.Nat.{ℕ, ◌+◌, ◌*◌, ◌-◌, ◌≤◌}
use native.Mathlib.Nat.{mul-le-mul_left, mul-le-mul_right, mul-zero}
use native.Mathlib.Omega.{arith}
use Rattle.exact.specs.declared.Season.{Season}
use Rattle.exact.specs.declared.Row.{Row}
use Rattle.exact.specs.Factors.{F1}
use Rattle.exact.specs.Masses.{Mechanism, diurnal, soak, running}
use Rattle.factors.specs.Units.{factor_units, low_micrograms, high_micrograms}
use Rattle.factors.proofs.FactorBound.{band_micrograms, high-near-low}
use Rattle.masses.specs.Figures.{µg, blended, day_figure, year_figure, low_figure, high_figure, row_figures}
use Rattle.masses.specs.Bands.{all_days, hundredths, MassBand}
use Rattle.masses.specs.AnyCounts.{Every, Shares, Enclosed}
use Rattle.masses.proofs.MassBound.{low-above, high-below}

-- a blend of parts that are at most that far apart, with shares c, d and p, q of all
blend-apart : (c d p q h w i : ℕ) {h' w' i' : ℕ} → c + d ≡ 100 → p + q ≡ 100 → h' ≤ h + band_micrograms
    → w' ≤ w + band_micrograms → i' ≤ i + band_micrograms
    → c * (p * h' + q * w') + d * 100 * i' ≤ c * (p * h + q * w) + d * 100 * i + 10000 * band_micrograms
blend-apart c d p q h w i {h'} {w'} e f a b g =
    let inner : p * h' + q * w' ≤ p * h + q * w + 100 * band_micrograms = omega (arith, mul-le-mul_left p a, mul-le-mul_left q b) in
    omega (arith, mul-le-mul_left c inner, mul-le-mul_left (d * 100) g)

module _ (counts : List ℕ) {row : Row} (shares : Shares row) where
  -- the figures of a day's trips
  trips-apart : (season : Season) (h w i : ℕ)
      → row.trips * blended row (high_micrograms h) (high_micrograms w) (high_micrograms i) ≤ row.trips * blended row
      (low_micrograms h) (low_micrograms w) (low_micrograms i) + 10000 * band_micrograms * row.trips
  unfolding blended
  trips-apart season h w i =
      let c = row.carburettor in
      let p = row.hot in
      let all : c + (100 - c) ≡ 100 = omega (arith, shares.carburettor-most) in
      let trips : p + (100 - p) ≡ 100 = omega (arith, shares.hot-most) in
      omega (
        arith,
        mul-le-mul_left row.trips
            (blend-apart c (100 - c) p (100 - p) (low_micrograms h) (low_micrograms w) (low_micrograms i) all trips
            (high-near-low h) (high-near-low w) (high-near-low i)),
      )

  -- a day's figures
  day-apart : (season : Season) (mechanism : Mechanism)
      → day_figure high_micrograms counts season row mechanism ≤ day_figure low_micrograms counts season row mechanism +
      10000 * band_micrograms * hundredths row mechanism
  unfolding day_figure hundredths µg
  day-apart season diurnal = omega (arith, high-near-low (factor_units season row counts F1))
  day-apart season soak = trips-apart season _ _ _
  day-apart season running = trips-apart season _ _ _

  -- a year's figures
  pub year-apart : (seasons : List Season) (mechanism : Mechanism)
      → year_figure high_micrograms counts seasons row mechanism ≤ year_figure low_micrograms counts seasons row mechanism +
      10000 * band_micrograms * hundredths row mechanism * all_days seasons
  unfolding year_figure all_days
  year-apart [] mechanism = omega arith
  year-apart (season ∷ seasons) mechanism =
      omega (arith, year-apart seasons mechanism, mul-le-mul_left season.days (day-apart season mechanism))

  -- "a hundredth of a milligram, the two milligrams kept": up to 10 micrograms
  figures-apart : (seasons : List Season) (mechanism : Mechanism)
      → 10000 * high_figure counts seasons row mechanism ≤ 10000 * low_figure counts seasons row mechanism + row.vehicles
      * all_days seasons * hundredths row mechanism + 20000
  unfolding low_figure high_figure
  figures-apart seasons mechanism = omega (arith, mul-le-mul_right row.vehicles (year-apart seasons mechanism))

  -- what is promised of a row's figures
  pub mass-band : (seasons : List Season) → Every (λ (season : Season). Enclosed counts season row) seasons → (mechanism : Mechanism)
      → MassBand counts seasons row mechanism (low_figure counts seasons row mechanism) (high_figure counts seasons row mechanism)
  mass-band seasons e mechanism = record {
    above = λ n h. low-above shares counts mechanism n h seasons e;
    below = λ n h. high-below shares counts mechanism n h seasons e;
    narrow = figures-apart seasons mechanism;
  }

-- "A row without vehicles has six zeros."
pub no-vehicles : (counts : List ℕ) (seasons : List Season) (row : Row) → row.vehicles ≡ 0
    → row_figures counts seasons row ≡ 0 ∷ 0 ∷ 0 ∷ 0 ∷ 0 ∷ 0 ∷ []
unfolding row_figures low_figure high_figure
no-vehicles counts seasons row e = simp (e, mul-zero)
