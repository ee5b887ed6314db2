-- Need not be believed: the six figures of a row as the program computes them, a function of the counts, the seasons and the row. That they
-- hold the exact masses is stated in Bands and AnyCounts.
use Rattle.std.specs.Prelude.{List, [], ◌∷◌, ℕ, ◌+◌, ◌*◌, ◌-◌, ◌/◌, ◌^◌}
use Rattle.exact.specs.declared.Season.{Season}
use Rattle.exact.specs.declared.Row.{Row}
use Rattle.exact.specs.Factors.{Factor, F1, F2, F3, F4, F5, F6, F7}
use Rattle.exact.specs.Masses.{Mechanism, diurnal, soak, running}
use Rattle.factors.specs.Units.{factor_units, low_micrograms, high_micrograms}

-- c·(p·hot + (1 − p)·warm) + (1 − c)·injection, times 10⁴: the shares are in percent
unfoldable pub blended : Row → ℕ → ℕ → ℕ → ℕ
blended row hot warm injection =
    row.carburettor * (row.hot * hot + (100 - row.hot) * warm) + (100 - row.carburettor) * 100 * injection

-- One vehicle's loss on one day, in units of 10⁻¹² g, from the factors in micrograms; trips are in hundredths.
module _ (micrograms : ℕ → ℕ) (counts : List ℕ) (season : Season) (row : Row) where
  unfoldable pub µg : Factor → ℕ
  µg k = micrograms (factor_units season row counts k)

  unfoldable pub day_figure : Mechanism → ℕ
  day_figure diurnal = 10 ^ 6 * µg F1
  day_figure soak = row.trips * blended row (µg F4) (µg F3) (µg F2)
  day_figure running = row.trips * blended row (µg F7) (µg F6) (µg F5)

-- summed over the days of all seasons
unfoldable pub year_figure : (ℕ → ℕ) → List ℕ → List Season → Row → Mechanism → ℕ
year_figure micrograms counts [] row mechanism = 0
year_figure micrograms counts (season ∷ seasons) row mechanism =
    season.days * day_figure micrograms counts season row mechanism + year_figure micrograms counts seasons row mechanism

-- all vehicles, in milligrams: the low cut down, the high cut up
unfoldable pub low_figure : List ℕ → List Season → Row → Mechanism → ℕ
low_figure counts seasons row mechanism = year_figure low_micrograms counts seasons row mechanism * row.vehicles / 10 ^ 9

unfoldable pub high_figure : List ℕ → List Season → Row → Mechanism → ℕ
high_figure counts seasons row mechanism =
    (year_figure high_micrograms counts seasons row mechanism * row.vehicles + (10 ^ 9 - 1)) / 10 ^ 9

-- "per row diurnal, soak, running, each low then high"
unfoldable pub row_figures : List ℕ → List Season → Row → List ℕ
row_figures counts seasons row =
    low_figure counts seasons row diurnal ∷
    high_figure counts seasons row diurnal ∷
    low_figure counts seasons row soak ∷
    high_figure counts seasons row soak ∷
    low_figure counts seasons row running ∷
    high_figure counts seasons row running ∷ []
